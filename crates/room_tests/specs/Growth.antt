-- A history that goes on, and a snapshot of what it was: for tests alone, and no public contract cites it.
use Rattle.std.specs.Prelude.{◌≡◌, List, ◌++◌}
use Rattle.history_model.specs.{declared.entries.Entry.Entry, Allowed.Legal, Entries.entries_of, Runs.Series}
use Rattle.track_model.specs.Tracks.{Track}
use Rattle.track_series.specs.{Snapshots.IsTakenAt, declared.snapshot.Snapshot.Snapshot}

-- a machine's history goes on
abbrev pub Grows : Track → Track → Type 0
Grows old new = (more : List Entry) × (entries_of new.history ≡ entries_of old.history ++ more)

-- the snapshot is of a legal history that goes on to this machine's
pub record IsTakenBefore (new : Track) (x : Snapshot) : Type 0 where
  pub at : Track
  pub series : Series
  pub taken : IsTakenAt at series x
  pub legal : Legal (entries_of at.history)
  pub grown : Grows at new
