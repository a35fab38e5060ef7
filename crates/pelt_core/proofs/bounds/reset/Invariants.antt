use Rattle.std.proofs.Common.{◌≡◌, ℕ, ◌<◌}
use Rattle.pelt_core.specs.Bounds.{bound_at}
use Rattle.pelt_core.proofs.bounds.reset.Given as goal

abbrev pub invariant-loop-k : goal.invariant-loop-k
invariant-loop-k l = (j : ℕ) → j < l.k → bound_at l.bounds j ≡ l.bound
