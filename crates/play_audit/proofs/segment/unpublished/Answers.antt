use Rattle.std.{proofs.Common.{◌≢◌, ◌++◌, ℕ, List, sym, subst, ◌∙◌, arith}, specs.Prelude.{IfNone, IfSome, Option}}
use Rattle.request_model.specs.declared.replies.Refusal.TheVariants.{Stale}
use Rattle.reply_text.specs.Replies.{text_of}
use Rattle.track_model.specs.{Outcomes.refuses, Replies.reply_of}
use Rattle.journal_walk.specs.Walks.{added}
use Rattle.play_audit.{specs.Segments.IsKnownAt, specs.Texts.BeginsWith, proofs.Refusing.{full_next, stale_next, unknown_front}}
use Rattle.play_audit.proofs.segment.unpublished.Goals as goal
use Rattle.play_audit.proofs.segment.unpublished.Goals.{After-last_version-last}

pub returns-then-not-is_known-clause-compared : goal.returns-then-not-is_known-clause-compared
returns-then-not-is_known-clause-compared c =
    unknown_front c.publication_law.ensures.cuts c.args.walk.now c.args.known c.args.test.now c.args.metric.now c.args.transcript.now c.texts_law.ensures c.replies_law.ensures.names
    c.requires.knows.few c.requires.knows.along c.requires.knows.since c.refused.result (sym c.is_known.ensures ∙ c.if-not-is_known.true) c.refused.ensures.some c.refused.ensures.none

known-at : (c : After-last_version-last) → IsKnownAt c.args.walk.now c.args.known (record { test = c.args.test.now; metric = c.args.metric.now }) c.last_version-last.result
known-at c = record { knows = c.requires.knows; there = sym c.is_known.ensures ∙ c.if-not-is_known.false; is_last = c.last_version-last.ensures.is; past = c.last_version-last.ensures.past }

pub full-requires : goal.full-requires
full-requires c = record { known = known-at (goal.at.full-requires c).After-last_version-last }

pub returns-then-last-known-clause-compared : goal.returns-then-last-known-clause-compared
returns-then-last-known-clause-compared c =
    full_next c.publication_law.ensures.cuts c.args.walk.now c.args.known c.args.test.now c.args.metric.now c.args.transcript.now c.texts_law.ensures c.replies_law.ensures.names
    c.requires.knows.few c.requires.knows.along c.requires.knows.since c.last_version-last.result (known-at (goal.at.returns-then-last-known-clause-compared c).After-last_version-last) c.full.result
    (λ low rest is. absurd (omega (arith, low, c.if-last-known.true))) c.full.ensures.some c.full.ensures.none

pub returns-in-Some-clause-compared : goal.returns-in-Some-clause-compared
returns-in-Some-clause-compared c =
    stale_next c.publication_law.ensures.cuts c.args.walk.now c.args.known c.args.test.now c.args.metric.now c.args.transcript.now c.texts_law.ensures c.replies_law.ensures.names
    c.requires.knows.few c.requires.knows.along c.requires.knows.since c.last_version-last.result (known-at (goal.at.returns-in-Some-clause-compared c).After-last_version-last) c.in-Some.len
    (omega (arith, c.if-last-known.false))
    (subst (λ (o : Option ℕ). IfSome o (BeginsWith c.args.transcript.now (reply_of (added c.args.walk.now) (refuses (Stale c.last_version-last.result))))) c.in-Some.is c.in_ok-len.ensures.some)

pub full-requires-in-None : goal.full-requires-in-None
full-requires-in-None c = record { known = known-at (goal.at.full-requires-in-None c).After-last_version-last }

pub returns-in-None-clause-compared : goal.returns-in-None-clause-compared
returns-in-None-clause-compared c =
    full_next c.publication_law.ensures.cuts c.args.walk.now c.args.known c.args.test.now c.args.metric.now c.args.transcript.now c.texts_law.ensures c.replies_law.ensures.names
    c.requires.knows.few c.requires.knows.along c.requires.knows.since c.last_version-last.result (known-at (goal.at.returns-in-None-clause-compared c).After-last_version-last) c.full-in-None.result
    (λ low. subst (λ (o : Option ℕ). IfNone o ((rest : List ℕ) → c.args.transcript.now ≢ text_of (reply_of (added c.args.walk.now) (refuses (Stale c.last_version-last.result))) ++ rest))
    c.in-None.is c.in_ok-len.ensures.none) c.full-in-None.ensures.some c.full-in-None.ensures.none
