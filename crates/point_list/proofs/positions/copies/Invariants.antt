use Rattle.std.proofs.Common.{◌≡◌, take}
use Rattle.point_list.proofs.positions.copies.Given as goal

abbrev pub invariant-loop-slot : goal.invariant-loop-slot
invariant-loop-slot l = l.made.items ≡ take l.slot-index l.slots
