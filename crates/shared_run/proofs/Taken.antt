-- Private: no public contract cites this. What the output took of the journals' text, where all of it isn't known to be there.
use Rattle.std.{proofs.Common.{ℕ, List, arith}, specs.Prelude.Result, proofs.lemmas.Grind.common_steps}
use Rattle.track_outside.specs.{Calls.{Took, FailedIn, TookPart}, declared.out_error.OutError.OutError}
use Rattle.track_outside.specs.declared.sink.Sink as sink
use Rattle.journal_text.specs.Writing.{Writes}

pub took-part : {O : Type 0} (o : sink.Ghosts O) (old new : O) (text : List ℕ) → Took o old new text → TookPart o old new text
took-part o old new text took = grind (arith, common_steps)

pub failed-part : {O : Type 0} (o : sink.Ghosts O) (old new : O) (text : List ℕ) → FailedIn o old new text → TookPart o old new text
failed-part o old new text failed = record { part = failed.part; counts = failed.counts }

-- however it ended
pub written-part : {O : Type 0} (o : sink.Ghosts O) (old new : O) (text : List ℕ) (r : Result (Unit {0}) OutError) → Writes o old new text r → TookPart o old new text
written-part o old new text r wrote = grind (arith, common_steps)
