use Rattle.std.proofs.{Common.{◌≡◌, ◌≤◌, ◌+◌, ◌-◌, ◌*◌, length, FitsSigned, w64, arith}, lemmas.Int.to_z-of_z}
use Rattle.absolute_cost.proofs.Counts.{count_more}
use Rattle.absolute_cost.proofs.blocks.count_in_blocks.Goals as goal

pub count_in_order-count-requires : goal.count_in_order-count-requires
count_in_order-count-requires c =
    let width : 32 * c.loop-k.k + 32 - 32 * c.loop-k.k ≡ 32 = omega arith in
    let fits : 32 * c.loop-k.k + 32 ≤ length c.args.whole.now = omega (arith, c.loop-k-test.true) in
    rw width (c.requires.blocks.ordered c.loop-k.k fits)

pub loop-k-preserved : goal.loop-k-preserved
loop-k-preserved c =
    let c_fits : FitsSigned w64 c.args.c = c.ranges.c in
    let width : 32 * c.loop-k.k + 32 - 32 * c.loop-k.k ≡ 32 = omega arith in
    let before = simp to_z-of_z at c.loop-k.invariant in
    let one = simp to_z-of_z at c.count_in_order-count.ensures in
    let here = rw width at one in
    simp to_z-of_z (count_more c.args.c c.loop-k.k c.loop-k.count c.count_in_order-count.result c.args.whole.now before here)
