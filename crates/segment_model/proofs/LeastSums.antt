-- Exported: the least sum of squares is a cost that merges and is in range.
use Rattle.std.proofs.{Common.{◌^◌, ◌++◌, arith}, lemmas.Int.ints}
use Rattle.segment_model.{specs.Computed.least_sum_of, specs.Values.{LeastSumsMerge, LeastSumsAreInRange}, proofs.Centres.{least_sum_of-is, least_sum-append}}
use Rattle.segment_model.proofs.Bounds.{least_sum-low, least_sum-high}

pub least_sums-merge : LeastSumsMerge
least_sums-merge xs ys = least_sum-append xs ys (least_sum_of xs) (least_sum_of ys) (least_sum_of (xs ++ ys)) (least_sum_of-is xs) (least_sum_of-is ys) (least_sum_of-is (xs ++ ys))

pub least_sums-range : LeastSumsAreInRange
least_sums-range xs small few = (
  least_sum-low xs (least_sum_of xs) (least_sum_of-is xs),
  omega (arith, ints, few, least_sum-high (10 ^ 16) xs (least_sum_of xs) small (least_sum_of-is xs)),
)
