use Rattle.std.proofs.Common.{◌≡◌, ◌≤◌, ◌+◌, ◌-◌, drop, length}
use Rattle.point_list.specs.Places.{common}
use Rattle.point_list.proofs.prefix.common_rows.Given as goal

abbrev pub invariant-loop-k : goal.invariant-loop-k
invariant-loop-k l = record {
  common : common l.a l.b ≡ l.k + common (drop l.k l.a) (drop l.k l.b);
  first : l.k ≤ length l.a;
  second : l.k ≤ length l.b;
}

abbrev pub decreases-loop-k : goal.decreases-loop-k
decreases-loop-k l = length l.a - l.k
