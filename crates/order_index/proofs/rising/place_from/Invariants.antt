use Rattle.std.proofs.Common.{◌≤◌, ◌-◌, take, drop, length}
use Rattle.order_index.specs.Kept.{AreBelow, AreFrom}
use Rattle.order_index.proofs.rising.place_from.Given as goal

-- the numbers before `low` are below this one, and those from `high` on are not
abbrev pub invariant-loop-low : goal.invariant-loop-low
invariant-loop-low l = record {
  order : l.low ≤ l.high;
  within : l.high ≤ length l.commits;
  below : AreBelow l.number (take l.low l.commits);
  rest : AreFrom l.number (drop l.high l.commits);
}

abbrev pub decreases-loop-low : goal.decreases-loop-low
decreases-loop-low l = l.high - l.low
