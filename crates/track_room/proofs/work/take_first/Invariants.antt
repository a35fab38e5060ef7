use Rattle.std.specs.Prelude.{None}
use Rattle.track_room.proofs.Firsts.{Enters}
use Rattle.track_room.proofs.work.take_first.Given as goal

abbrev pub invariant-loop-i : goal.invariant-loop-i
invariant-loop-i g l = Enters (g.T.Take.takes None) l.i l.machines l.initial.passes l.passes
