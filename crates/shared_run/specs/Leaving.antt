-- No public contract cites this. What is done with the journals of a run: they are written, and their new rows added.
use Rattle.std.specs.Prelude.{ℕ, List, Result, Ok, Err}
use Rattle.track_outside.specs.Calls.{Took, FailedIn, TookPart}
use Rattle.track_outside.specs.declared.sink.Sink as sink
use Rattle.shared_run.specs.declared.stop.RunStop.{RunStop, TheVariants.{NoMemory, StoreFault, WriteFault}}

-- what the output took of the text: all of it, unless it failed or memory was wanting
abbrev pub WritesText : {O : Type 0} → sink.Ghosts O → O → O → List ℕ → Result (Unit {0}) RunStop → Type 0
WritesText o old new text (Ok done) = Took o old new text
WritesText o old new text (Err NoMemory) = TookPart o old new text
WritesText o old new text (Err StoreFault) = Took o old new text
WritesText o old new text (Err WriteFault) = FailedIn o old new text
WritesText o old new text (Err why) = ⊥
