-- What holds of the rows of machines.
use Rattle.std.specs.Prelude.{ℕ, List, ◌++◌, map, filter}
use Rattle.history_model.specs.{declared.entries.Entry.Entry, Allowed.Legal}
use Rattle.track_model.specs.Tracks.{Track}
use Rattle.keep_rows.specs.{Growth.WentOn, Kept.{is_kept, kept_of, AreKept}, Loading.{Stored, LeadTo}, Rows.{new_rows, session_rows, version_after}}

-- what was kept comes back: rows that led to some machines, and the new rows of machines that went on from those, lead to
-- each of the latter as it is kept
abbrev pub KeptComesBack : Type 0
KeptComesBack =
    (rows : List (List ℕ)) (old : Stored) (new : List Track) → LeadTo rows old → WentOn old.machines new
    → LeadTo (rows ++ new_rows old.version new) (record { machines = map kept_of new; version = version_after old.version (session_rows new) })

-- what rows lead to is as a store keeps it
abbrev pub LoadedAreKept : Type 0
LoadedAreKept = (rows : List (List ℕ)) (stored : Stored) → LeadTo rows stored → AreKept stored.machines

-- a history without its publications is legal where the history is
abbrev pub KeptIsLegal : Type 0
KeptIsLegal = (h : List Entry) → Legal h → Legal (filter is_kept h)
