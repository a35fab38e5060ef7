use Rattle.std.proofs.Common.{◌≡◌, ◌≤◌, ◌+◌, ◌-◌, ◌*◌, length, arith}
use Rattle.absolute_cost.proofs.Sorted.{one_block, block_length}
use Rattle.absolute_cost.proofs.blocks.add_blocks.Goals as goal

pub loop-k-preserved : goal.loop-k-preserved
loop-k-preserved c =
    let width : 32 * c.loop-k.k + 32 - 32 * c.loop-k.k ≡ 32 = omega arith in
    let fits : 32 * c.loop-k.k + 32 ≤ length c.args.values.now = omega (arith, c.loop-k-test.true, c.min-count.ensures) in
    let more = rw width at c.add_block.ensures.added in
    record {
      known = one_block c.args.values.now c.loop-k.sorted.items c.add_block.new.sorted.items c.loop-k.k c.loop-k.invariant.count fits c.loop-k.invariant.known more;
      count = omega (arith, more.count, block_length c.loop-k.k c.args.values.now fits, c.loop-k.invariant.count);
      room = omega (arith, c.loop-k.invariant.room, c.add_block.ensures.capacity);
    }
