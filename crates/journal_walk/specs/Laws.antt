-- What holds of all walks.
use Rattle.std.specs.Prelude.{ℕ, true, List}
use Rattle.history_model.specs.declared.entries.Placed.{Placed}
use Rattle.track_model.specs.Tracks.{new_track}
use Rattle.journal_walk.specs.Walks.{Walked, IsAlong, GoesOn}

-- a walk at its beginning has the first entries of its history
abbrev pub BeginsAlong : Type 0
BeginsAlong = (machine : List ℕ) (history : List Placed) → IsAlong (record { history = history; track = new_track machine true })

-- and so has one that goes on
abbrev pub StaysAlong : Type 0
StaysAlong = (old new : Walked) → IsAlong old → GoesOn old new → IsAlong new
