use Rattle.std.proofs.Common.{◌≤◌}
use Rattle.point_list.proofs.points.blocks_before.Given as goal

abbrev pub invariant-loop-kept : goal.invariant-loop-kept
invariant-loop-kept l = record {
  within : l.kept ≤ l.most;
}

abbrev pub decreases-loop-kept : goal.decreases-loop-kept
decreases-loop-kept l = l.kept
