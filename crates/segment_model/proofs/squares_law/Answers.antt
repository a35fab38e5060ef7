use Rattle.segment_model.proofs.{Centres.least_sum_of-is, LeastSums.{least_sums-merge, least_sums-range}}
use Rattle.segment_model.proofs.squares_law.Goals as goal

pub returns : goal.returns
returns c = record { computed = least_sum_of-is; merge = least_sums-merge; in_range = least_sums-range }
