use Rattle.std.proofs.Common.{◌-◌}
use Rattle.cost_certificate.specs.Checks.{IsNeed}
use Rattle.cost_certificate.proofs.blocks.need_of.Given as goal

abbrev pub invariant-loop-t : goal.invariant-loop-t
invariant-loop-t l = IsNeed l.tables l.from (l.t - 1) l.need
