use Rattle.std.{proofs.Common.{◌≡◌, ◌+◌, ◌*◌, ◌-◌, ◌≤◌, List, ◌++◌, drop, length}, specs.Arc.arc_value}
use Rattle.segment_model.specs.Segments.{Position}
use Rattle.point_list.specs.{Blocks.{AreFull, joined}, Places.common}
use Rattle.point_list.proofs.prefix.same_blocks.Given as goal

abbrev pub invariant-loop-k : goal.invariant-loop-k
invariant-loop-k l = record {
  common : (one other : List Position) → AreFull arc_value l.a → AreFull arc_value l.b
      → common (joined arc_value l.a ++ one) (joined arc_value l.b ++ other)
      ≡ 128 * l.k + common (drop (128 * l.k) (joined arc_value l.a ++ one)) (drop (128 * l.k) (joined arc_value l.b ++ other));
  first : l.k ≤ length l.a;
  second : l.k ≤ length l.b;
}

abbrev pub decreases-loop-k : goal.decreases-loop-k
decreases-loop-k l = length l.a - l.k
