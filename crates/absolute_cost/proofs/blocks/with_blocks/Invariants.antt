use Rattle.std.proofs.Common.{◌*◌, take}
use Rattle.absolute_cost.specs.Between.{HaveTaken}
use Rattle.absolute_cost.proofs.blocks.with_blocks.Given as goal

-- the values of the blocks so far lie between the ends
abbrev pub invariant-loop-k : goal.invariant-loop-k
invariant-loop-k l = HaveTaken (take (32 * l.k) l.whole) l.fn.ends l.wide
