use Rattle.segment_model.proofs.BestCuts.{length-one, any-begins, any-candidate, cut_list-rises}
use Rattle.segment_model.proofs.length_law.Goals as goal

pub returns : goal.returns
returns c = record { one = length-one; begins = any-begins; candidate = any-candidate; rises = cut_list-rises }
