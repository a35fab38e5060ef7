use Rattle.std.proofs.Common.{◌-◌}
use Rattle.pelt_core.specs.Bounds.{HaveMore}
use Rattle.pelt_core.proofs.bounds.add_bounds.Given as goal

abbrev pub invariant-loop-bounds : goal.invariant-loop-bounds
invariant-loop-bounds l = HaveMore l.initial.bounds.items l.bounds.items

abbrev pub decreases-loop-bounds : goal.decreases-loop-bounds
decreases-loop-bounds l = l.count - l.bounds.len
