use Rattle.std.proofs.Common.{◌*◌, length}
use Rattle.segment_model.specs.Values.{cost_between}
use Rattle.pelt_core.specs.Bounds.{AreLooked}
use Rattle.pelt_core.proofs.bounds.best_of_block.Given as goal

abbrev pub invariant-loop-i : goal.invariant-loop-i
invariant-loop-i g l =
    AreLooked (cost_between g.C.Cost.cost_of (g.C.Cost.positions l.cost)) l.least (length (g.C.Cost.positions l.cost)) l.candidates l.guess (256 * l.k) l.i l.best l.low
