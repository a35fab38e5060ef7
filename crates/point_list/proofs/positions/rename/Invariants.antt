use Rattle.std.proofs.Common.{◌≡◌, ◌++◌, map, take, drop}
use Rattle.point_list.specs.Slots.{renamed}
use Rattle.point_list.proofs.positions.rename.Given as goal

abbrev pub invariant-loop-slot : goal.invariant-loop-slot
invariant-loop-slot l = l.order ≡ map (renamed l.from l.to) (take l.slot-index l.initial.order) ++ drop l.slot-index l.initial.order
