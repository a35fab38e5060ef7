use Rattle.std.proofs.Common.{ℕ, ◌<◌, ◌≤◌}
use Rattle.cost_certificate.specs.Checks.{PlaceHoldsInBlock}
use Rattle.cost_certificate.proofs.blocks.range_holds.Given as goal

abbrev pub invariant-loop-s : goal.invariant-loop-s
invariant-loop-s l = (s : ℕ) → l.start ≤ s → s < l.s → PlaceHoldsInBlock l.tables s l.from l.end
