-- Within the limits no distance is above 2 * 10^16, and so no noise.
use Rattle.std.{proofs.Common.{◌≡◌, ℕ, ℤ, ◌+◌, ◌-◌, ◌*◌, ◌/◌, ◌^◌, ◌<◌, ◌≤◌, List, length, subst, arith, ◌-ℤ◌, unsigned_abs, All}, specs.Prelude.slice_index}
use Rattle.std.proofs.lemmas.{Int.ints, List.get_or_default, List.Sorted.{All-permutation, length_permutation}}
use Rattle.segment_model.specs.{Segments.{Position, segment, IsCentre}, Limits.WithinLimits, Computed.{sum_of, centre_by_division}}
use Rattle.segment_model.specs.Laws.{SegmentHasValue, SegmentIsWithinLimits, SmallSumsAreInRange, DivisionGivesCentre, DivisionIsInRange, CentreIsUnique}
use Rattle.series_noise.specs.Noise.{IsDistance, AreDistances, IsNoise}

apart : (a b : ℤ) → unsigned_abs a ≤ 10 ^ 16 → unsigned_abs b ≤ 10 ^ 16 → unsigned_abs (a -ℤ b) ≤ 2 * 10 ^ 16
apart a b small_a small_b = omega (arith, ints, small_a, small_b)

module _ (some : SegmentHasValue) (within : SegmentIsWithinLimits) (sums : SmallSumsAreInRange) (divided : DivisionGivesCentre) (ranged : DivisionIsInRange) (unique : CentreIsUnique)
    (points : List Position) (limits : WithinLimits points) where
  small-centre : (s t : ℕ) (c : ℤ) → s < t → t ≤ length points → IsCentre (segment points s t) c → unsigned_abs c ≤ 10 ^ 16
  small-centre s t c lt le centre =
      let xs = segment points s t in
      let few = within points limits s t (omega (arith, lt)) le in
      let in_range = sums xs few.0 in
      let has = some points limits s t lt le in
      let same : centre_by_division (length xs) (sum_of xs) ≡ c = unique xs (centre_by_division (length xs) (sum_of xs)) c (divided xs has) centre in
      subst (λ (z : ℤ). unsigned_abs z ≤ 10 ^ 16) same (ranged (length xs) (10 ^ 16) (sum_of xs) has in_range.0 in_range.1)

  small-distance : (i d : ℕ) → i + 1 < length points → IsDistance points i d → d ≤ 2 * 10 ^ 16
  small-distance i d lt is =
      let before = small-centre i (i + 1) is.before (omega arith) (omega (arith, lt)) is.centre_before in
      let after = small-centre (i + 1) (i + 2) is.after (omega arith) (omega (arith, lt)) is.centre_after in
      let most = apart is.after is.before after before in
      omega (arith, most, is.apart)

  small-distances : (ds : List ℕ) → AreDistances points ds → All (λ (d : ℕ). d ≤ 2 * 10 ^ 16) ds
  small-distances ds are i d lt =
      let one = small-distance i (slice_index ds i) (omega (arith, lt, are.counted)) (are.each i lt) in
      subst (λ (n : ℕ). n ≤ 2 * 10 ^ 16) (get_or_default ds i 0 d lt) one

  pub small-noise : (n : ℕ) → 1 < length points → IsNoise points n → n ≤ 2 * 10 ^ 16
  small-noise n many is =
      let all = All-permutation (λ (d : ℕ). d ≤ 2 * 10 ^ 16) is.distances is.median.ordered is.median.same_items (small-distances is.distances is.apart) in
      let size = length_permutation is.distances is.median.ordered is.median.same_items in
      let middle : slice_index is.median.ordered ((length is.distances - 1) / 2) ≤ 2 * 10 ^ 16 =
      all ((length is.distances - 1) / 2) 0 (omega (arith, size, many, is.apart.counted)) in
      omega (arith, middle, is.median.middle)
