use Rattle.std.proofs.Common.{◌≡◌, ◌*◌, take}
use Rattle.distance_model.specs.Middles.{at_most}
use Rattle.absolute_cost.proofs.blocks.count_in_blocks.Given as goal

abbrev pub invariant-loop-k : goal.invariant-loop-k
invariant-loop-k l = l.count ≡ at_most l.c (take (32 * l.k) l.whole)
