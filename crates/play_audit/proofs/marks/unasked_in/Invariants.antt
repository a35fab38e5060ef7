use Rattle.std.proofs.Common.{◌<◌, ℕ}
use Rattle.play_audit.specs.Marks.{IsOpenIn}
use Rattle.play_audit.proofs.marks.unasked_in.Given as goal

abbrev pub invariant-loop-i : goal.invariant-loop-i
invariant-loop-i l = (k : ℕ) → k < l.i → IsOpenIn l.history l.marks k → ⊥
