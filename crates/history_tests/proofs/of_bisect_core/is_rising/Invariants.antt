use Rattle.std.{proofs.Common.{ℕ, ◌+◌, ◌<◌}, specs.Prelude.slice_index}
use Rattle.history_tests.proofs.of_bisect_core.is_rising.Given as goal

abbrev pub invariant-loop-i : goal.invariant-loop-i
invariant-loop-i l = (k : ℕ) → k + 1 < l.i → slice_index l.commits k < slice_index l.commits (k + 1)
