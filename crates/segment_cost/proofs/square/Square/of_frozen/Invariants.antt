use Rattle.std.proofs.Common.{◌≡◌, take}
use Rattle.segment_model.specs.Values.{values_by_position}
use Rattle.segment_cost.proofs.square.Square.of_frozen.Given as goal

abbrev pub invariant-loop-i : goal.invariant-loop-i
invariant-loop-i l = l.square.positions ≡ take l.i (values_by_position l.points)
