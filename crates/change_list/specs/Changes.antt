-- The changes of a finished segmentation: what stands beside each of its cuts.
use Rattle.std.specs.Prelude.{◌≡◌, ◌≢◌, ℕ, ℤ, ◌-◌, ◌<◌, ◌≤◌, Bool, true, false, List, length, get_or, slice_index, IsTrue, ◌↔◌, ◌<ℤ◌}
use Rattle.segment_model.specs.{Segments.{Position, segment, IsCentre}, Limits.commits_of, Cuts.{place_before, place_behind}}
use Rattle.metric_table.specs.Table.{row_of}
use Rattle.change_list.specs.declared.change.Change.{Change}

-- the right value is worse than the left one, where a larger value is better or not
abbrev pub IsWorse : Bool → ℤ → ℤ → Type 0
IsWorse true left right = right <ℤ left
IsWorse false left right = left <ℤ right

-- the change at a cut, with the places beside it: the commits of the positions before and behind the cut, the centres
-- of the segments before and behind it, which differ, and whether the one behind it is worse
pub record IsChange (points : List Position) (larger_is_better : Bool) (low cut high : ℕ) (change : Change) : Type 0 where
  pub before : change.before ≡ slice_index (commits_of points) (cut - 1)
  pub after : change.after ≡ slice_index (commits_of points) cut
  pub left : IsCentre (segment points low cut) change.left
  pub right : IsCentre (segment points cut high) change.right
  pub differ : change.left ≢ change.right
  pub worse : IsTrue change.worse ↔ IsWorse larger_is_better change.left change.right

-- cut i stands between the places beside it, at the points' end at most, and the centres beside it differ
pub record IsBetween (points : List Position) (low cut high : ℕ) : Type 0 where
  pub above_low : low < cut
  pub below_high : cut < high
  pub placed : high ≤ length points
  pub differ : (left right : ℤ) → IsCentre (segment points low cut) left → IsCentre (segment points cut high) right → left ≢ right

-- one change for each cut, in order
pub record AreChanges (points : List Position) (metric : List ℕ) (cuts : List ℕ) (changes : List Change) : Type 0 where
  pub counted : length changes ≡ length cuts
  pub each : (i : ℕ) → i < length cuts → (d : Change)
      → IsChange points (row_of metric).larger_is_better
      (place_before cuts i) (slice_index cuts i) (place_behind cuts (length points) i) (get_or changes i d)
