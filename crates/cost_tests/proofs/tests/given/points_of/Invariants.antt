use Rattle.point_list.specs.Steps.{CameUpTo}
use Rattle.cost_tests.proofs.tests.given.points_of.Given as goal

abbrev pub invariant-loop-i : goal.invariant-loop-i
invariant-loop-i l = CameUpTo l.i l.points
