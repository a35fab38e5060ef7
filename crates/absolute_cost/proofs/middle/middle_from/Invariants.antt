use Rattle.std.proofs.Common.{◌-◌}
use Rattle.absolute_cost.{specs.Blocks.all_of, proofs.Numbers.Halves}
use Rattle.absolute_cost.proofs.middle.middle_from.Given as goal

abbrev pub invariant-loop-low : goal.invariant-loop-low
invariant-loop-low l = Halves (all_of l.pieces.head.now l.pieces.whole.now l.pieces.tail.now) l.least l.span l.low l.high

abbrev pub decreases-loop-low : goal.decreases-loop-low
decreases-loop-low l = l.high - l.low
