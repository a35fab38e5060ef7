-- Why reading of the names of an input stops.
use Rattle.std.specs.Prelude.{◌≡◌, ℕ, List, Option}
use Rattle.track_outside.specs.declared.source.Source.{Ghosts}
use Rattle.line_pieces.specs.declared.stop.Stop.{Stop}
use Rattle.line_pieces.specs.Stops as lines
use Rattle.commit_lines.specs.Reading.{Refuses, MayGoOn, AreNamesOf}

-- what the lines must be
abbrev pub rules : lines.Rules
rules = record { refuses = Refuses; goes_on = MayGoOn }

-- the bytes of an input show that reading stops so; they never show a fault or want of memory
abbrev pub BytesShow : List ℕ → Stop → Type 0
BytesShow bytes stop = lines.BytesShow rules bytes stop

-- no bytes show two stops
abbrev pub OneStop : Type 0
OneStop = lines.OneStop rules

-- bytes that have names show no stop
abbrev pub NoStopOfNames : Type 0
NoStopOfNames =
    (bytes : List ℕ) (names : List (List ℕ)) (stop : Stop) → AreNamesOf bytes names
    → ¬ BytesShow bytes stop

-- bytes have one list of names
abbrev pub OneListOfNames : Type 0
OneListOfNames =
    (bytes : List ℕ) (names other : List (List ℕ)) → AreNamesOf bytes names
    → AreNamesOf bytes other → names ≡ other

-- the bytes that an input gave may go on, where it tells those that are left before and after
abbrev pub GaveMayGoOn : Option (List ℕ) → Option (List ℕ) → Type 0
GaveMayGoOn before after = lines.GaveMayGoOn rules before after

-- why reading of an input stopped: at a fault its count rose, and what it gave may go on; else its
-- bytes show the stop, where it tells them; and of want of memory nothing is said
abbrev pub StopsFor : {I : Type 0} → Ghosts I → I → I → Stop → Type 0
StopsFor g old new stop = lines.StopsFor rules g old new stop
