-- What the workers leave at the end of a shared run: no series stale and no job open, but where a limit keeps them.
use Rattle.std.specs.{Prelude.{ℕ, ◌≤◌, List}, List.AllByRecursion}
use Rattle.history_model.specs.Entries.{entries_of}
use Rattle.track_model.specs.Tracks.{Track}
use Rattle.worker_model.specs.Quiet.{JobsAreQuiet, SeriesAreQuiet}

-- the journals are so where there are workers of the kind
pub record IsQuiet (recompute bisect : ℕ) (journals : List Track) : Type 0 where
  pub series : 1 ≤ recompute
      → AllByRecursion (λ (t : Track). SeriesAreQuiet (entries_of t.history)) journals
  pub jobs : 1 ≤ bisect
      → AllByRecursion (λ (t : Track). JobsAreQuiet (entries_of t.history)) journals
