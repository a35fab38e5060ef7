use Rattle.std.proofs.Common.{◌≡◌, ◌-◌, ◌≤◌, replicate, None}
use Rattle.journal_walk.proofs.ahead.nothing.Given as goal

abbrev pub invariant-loop-made : goal.invariant-loop-made
invariant-loop-made l = record {
  within : l.made ≤ l.count;
  so_far : l.slots.items ≡ replicate l.made None;
}

abbrev pub decreases-loop-made : goal.decreases-loop-made
decreases-loop-made l = l.count - l.made
