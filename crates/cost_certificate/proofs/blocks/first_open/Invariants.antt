use Rattle.std.proofs.Common.{◌≡◌, ℕ, ◌<◌, true}
use Rattle.cost_certificate.specs.Checks.{watch_at}
use Rattle.cost_certificate.proofs.blocks.first_open.Given as goal

abbrev pub invariant-loop-j : goal.invariant-loop-j
invariant-loop-j l = (i : ℕ) → i < l.j → (watch_at l.watches i).is_shut ≡ true
