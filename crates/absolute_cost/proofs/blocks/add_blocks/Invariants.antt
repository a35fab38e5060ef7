use Rattle.std.proofs.Common.{◌≡◌, ◌≤◌, ◌*◌, length, vec_capacity}
use Rattle.absolute_cost.specs.Blocks.{AreBlocksOf}
use Rattle.absolute_cost.proofs.blocks.add_blocks.Given as goal

abbrev pub invariant-loop-k : goal.invariant-loop-k
invariant-loop-k l = record {
  known : AreBlocksOf l.values l.sorted.items;
  count : length l.sorted.items ≡ 32 * l.k;
  room : vec_capacity l.fn.sorted ≤ vec_capacity l.sorted;
}
