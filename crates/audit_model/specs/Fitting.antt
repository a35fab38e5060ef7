-- What is shown where the files of a shared run fit together.
use Rattle.std.specs.Prelude.{◌≡◌, ℕ, ◌+◌, true, List, length, map, slice_get, Some}
use Rattle.history_model.specs.declared.entries.Author.TheVariants.{Script}
use Rattle.track_model.specs.Tracks.{Track}
use Rattle.journal_reader.specs.Journals.{crew_with}
use Rattle.play_fits.specs.{Journals.{machines_of, history_in, AreJournalsOf}, Scripts.IsPart, Fits.kept_in}
use Rattle.audit_model.specs.{Heard.{found, AreHeard}, Verdicts.AreOf, declared.heard.Heard.Heard}

-- All that files show of a shared run that fits its journals: each journal is legal and goes on from what was kept by entries
-- of the scripts and workers alone, of the kinds that these may add; and each script has its part, answered in full. What
-- runners were asked is in no file.
pub record FilesFit (heard : List Heard) (journals : List Track) : Type 0 where
  pub go_on : AreJournalsOf (crew_with (length heard)) (map found journals) journals
  pub scripts : (i : ℕ) (x : Heard) → slice_get heard i ≡ Some x
      → IsPart (Script (i + 1)) (machines_of journals) (history_in journals) (kept_in (map found journals))
      true (Some x.script) (Some x.transcript)

-- files that fit together show it
abbrev pub ShownFits : Type 0
ShownFits = (bytes : List ℕ) (heard : List Heard) (journals : List Track) → AreOf bytes heard journals → AreHeard journals heard
    → FilesFit heard journals
