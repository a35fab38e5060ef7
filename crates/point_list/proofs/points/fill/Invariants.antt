use Rattle.std.{proofs.Common.{◌-◌, ◌*◌, length}, specs.Arc.arc_value}
use Rattle.point_list.specs.Blocks.{IsFront}
use Rattle.point_list.proofs.points.fill.Given as goal

abbrev pub invariant-loop-alloc : goal.invariant-loop-alloc
invariant-loop-alloc l = record {
  front : IsFront arc_value l.front.items l.positions;
}

abbrev pub decreases-loop-alloc : goal.decreases-loop-alloc
decreases-loop-alloc l = length l.positions - 128 * length l.front.items
