-- One division gives the centre of a segment of the points.
use Rattle.std.proofs.{Common.{◌≡◌, ℕ, ℤ, ◌<◌, ◌≤◌, List, length, arith}, lemmas.Grind.common_steps}
use Rattle.segment_model.specs.{Segments.{Position, segment, IsCentre}, Limits.WithinLimits, Computed.{sum_of, centre_by_division}}
use Rattle.segment_model.specs.{Values.{values_between, values_by_position, ValuesOfPoints}, Laws.{SegmentHasValue, DivisionGivesCentre}}

pub centre-at : ValuesOfPoints → SegmentHasValue → DivisionGivesCentre → (points : List Position) (positions : List (List ℤ))
    → positions ≡ values_by_position points → WithinLimits points → (s t : ℕ) → s < t → t ≤ length points → (x : ℤ)
    → x ≡ centre_by_division (length (values_between positions s t)) (sum_of (values_between positions s t))
    → IsCentre (segment points s t) x
centre-at of_points some divided points positions stands limits s t lt le x is = grind (arith, common_steps)
