-- What the limits say of a run more.
use Rattle.std.specs.Prelude.{◌≡◌, List, length, Some, None}
use Rattle.history_model.specs.{declared.entries.Entry.Entry, declared.run.Run.Run, Allowed.{first_passed, run_limits}, Runs.new_series}
use Rattle.history_model.specs.declared.entries.Entry.TheVariants as entry
use Rattle.track_replay.specs.declared.verdict.Verdict.{Verdict, TheVariants.{Full, Fits}}

-- the first limit that the history would pass with the run, or the number of series that it makes known
abbrev pub IsVerdict : List Entry → Run → Verdict → Type 0
IsVerdict h run (Full limit) = first_passed run_limits h (entry.Accept run) ≡ Some limit
IsVerdict h run (Fits more) = (first_passed run_limits h (entry.Accept run) ≡ None) × (more ≡ length (new_series h run.samples))
