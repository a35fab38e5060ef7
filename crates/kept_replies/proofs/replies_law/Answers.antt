use Rattle.kept_replies.proofs.{Publishing.segment_so, Replies.{answers_alike, replies_alike, histories_alike}, Steps.store_keeps}
use Rattle.kept_replies.proofs.replies_law.Goals as goal

pub returns-clause-kept : goal.returns-clause-kept
returns-clause-kept c = store_keeps

pub returns-clause-answers : goal.returns-clause-answers
returns-clause-answers c = answers_alike c.values_law.ensures.of_points

pub returns-clause-replies : goal.returns-clause-replies
returns-clause-replies c = replies_alike c.values_law.ensures.of_points c.outcome_law.ensures

pub returns-clause-histories : goal.returns-clause-histories
returns-clause-histories c = histories_alike c.values_law.ensures.of_points c.outcome_law.ensures

pub returns-clause-segments : goal.returns-clause-segments
returns-clause-segments c h base kept_base machine test metric o kept comes kept_comes told kept_told =
    segment_so c.values_law.ensures.of_points h (record { test = test; metric = metric }) c.one_certificate_law.ensures base kept_base o kept comes kept_comes told kept_told
