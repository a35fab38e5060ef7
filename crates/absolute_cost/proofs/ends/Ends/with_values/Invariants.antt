use Rattle.std.proofs.Common.{take}
use Rattle.absolute_cost.specs.Between.{HaveTaken}
use Rattle.absolute_cost.proofs.ends.Ends.with_values.Given as goal

-- the values so far lie between the ends
abbrev pub invariant-loop-x : goal.invariant-loop-x
invariant-loop-x l = HaveTaken (take l.x-index l.values) l.fn.self l.ends
