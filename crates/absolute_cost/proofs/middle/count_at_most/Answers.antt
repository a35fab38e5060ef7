use Rattle.std.proofs.{Common.{FitsSigned, w64, arith}, lemmas.Int.to_z-of_z}
use Rattle.absolute_cost.proofs.Counts.{count_parts}
use Rattle.absolute_cost.proofs.middle.count_at_most.Goals as goal

pub returns : goal.returns
returns c =
    let fits : FitsSigned w64 c.args.c = c.ranges.c in
    let one = simp to_z-of_z at c.count_in.ensures in
    let two = simp to_z-of_z at c.count_in_blocks.ensures in
    let three = simp to_z-of_z at c.count_in-2.ensures in
    omega (arith, count_parts c.args.c c.args.pieces.head.now c.args.pieces.whole.now c.args.pieces.tail.now, one, two, three)
