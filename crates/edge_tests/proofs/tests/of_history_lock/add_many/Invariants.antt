use Rattle.std.proofs.Common.{◌≡◌}
use Rattle.history_lock.specs.Passes.{mark, IsPassOf, IsOutside}
use Rattle.edge_tests.proofs.tests.of_history_lock.add_many.Given as goal

abbrev pub invariant-loop-i : goal.invariant-loop-i
invariant-loop-i g l = IsPassOf l.lock l.pass × IsOutside l.pass × (mark l.pass ≡ mark l.initial.pass)
