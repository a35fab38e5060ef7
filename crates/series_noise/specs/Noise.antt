-- The noise of a series: the lower median of how far each position's centre is from the one before it.
use Rattle.std.specs.{Prelude.{◌≡◌, ℕ, ℤ, ◌+◌, ◌-◌, ◌/◌, ◌<◌, List, length, slice_index, unsigned_abs, ◌-ℤ◌}, List.Sorted.{IsPermutation, IsNonDecreasing}}
use Rattle.segment_model.specs.Segments.{Position, segment, IsCentre}

-- how far position i + 1 is from position i, counted from 0: the magnitude of the difference of their own centres
pub record IsDistance (points : List Position) (i distance : ℕ) : Type 0 where
  pub before : ℤ
  pub after : ℤ
  pub centre_before : IsCentre (segment points i (i + 1)) before
  pub centre_after : IsCentre (segment points (i + 1) (i + 2)) after
  pub apart : distance ≡ unsigned_abs (after -ℤ before)

-- the distances of all neighbours, in order
pub record AreDistances (points : List Position) (distances : List ℕ) : Type 0 where
  pub counted : length distances + 1 ≡ length points
  pub each : (i : ℕ) → i < length distances → IsDistance points i (slice_index distances i)

-- the lower median: in rising order, the item at half of the last place, rounded down
pub record IsLowerMedian (items : List ℕ) (median : ℕ) : Type 0 where
  pub ordered : List ℕ
  pub same_items : IsPermutation items ordered
  pub rising : IsNonDecreasing ordered
  pub middle : median ≡ slice_index ordered ((length items - 1) / 2)

-- the noise of a series: the lower median of the distances of neighbours
pub record IsNoise (points : List Position) (noise : ℕ) : Type 0 where
  pub distances : List ℕ
  pub apart : AreDistances points distances
  pub median : IsLowerMedian distances noise

-- no points have two
abbrev pub OneNoise : Type 0
OneNoise = (points : List Position) (one other : ℕ) → IsNoise points one → IsNoise points other → one ≡ other
