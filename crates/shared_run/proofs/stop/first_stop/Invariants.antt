use Rattle.std.{proofs.Common.{◌≡◌, ℕ, ◌<◌, Some, Ok}, specs.Prelude.slice_get}
use Rattle.shared_run.proofs.stop.first_stop.Given as goal

abbrev pub invariant-loop-i : goal.invariant-loop-i
invariant-loop-i l = (k : ℕ) → k < l.i → slice_get l.scripts k ≡ Some (Ok tt)
