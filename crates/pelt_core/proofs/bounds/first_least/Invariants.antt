use Rattle.std.proofs.Common.{◌*◌, length}
use Rattle.segment_model.specs.Values.{cost_between}
use Rattle.pelt_core.specs.Bounds.{HaveBounds, IsRise, IsFirst}
use Rattle.pelt_core.proofs.bounds.first_least.Given as goal

abbrev pub invariant-loop-k : goal.invariant-loop-k
invariant-loop-k g l =
    (HaveBounds (cost_between g.C.Cost.cost_of (g.C.Cost.positions l.cost)) (length (g.C.Cost.positions l.cost)) l.least l.candidates l.guess l.bounds)
    × (IsRise (cost_between g.C.Cost.cost_of (g.C.Cost.positions l.cost)) (length (g.C.Cost.positions l.cost)) l.rise)
    × (IsFirst (cost_between g.C.Cost.cost_of (g.C.Cost.positions l.cost)) l.least (length (g.C.Cost.positions l.cost)) l.candidates l.guess (256 * l.k) l.best)
