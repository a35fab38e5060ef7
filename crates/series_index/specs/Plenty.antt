-- No public contract cites this. A series that takes some samples whatever they are.
use Rattle.std.specs.Prelude.{◌≡◌, ℕ, ◌+◌, ◌<◌, ◌≤◌, false, length, is_none}
use Rattle.segment_model.specs.{Segments.values_of, Edits.has_commit}
use Rattle.series_index.specs.declared.tracked.Tracked.{Tracked}

-- it is known, and has room for so many values more, and the commit, or room for it
pub record HasPlenty (t : Tracked) (commit more : ℕ) : Type 0 where
  pub known : is_none t.since ≡ false
  pub values : length (values_of t.points) + more ≤ 65_536
  pub positions : has_commit commit t.points ≡ false → length t.points < 16_384
