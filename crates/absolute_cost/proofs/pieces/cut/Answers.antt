use Rattle.std.proofs.Common.{◌+◌, ◌/◌, arith}
use Rattle.absolute_cost.proofs.Sorted.{part_blocks, part_same}
use Rattle.absolute_cost.proofs.pieces.cut.Goals as goal

pub returns-clause-blocks : goal.returns-clause-blocks
returns-clause-blocks c =
    part_blocks c.args.sorted.now ((c.args.from + 31) / 32) (c.min-last.result / 32) c.requires.sorted.blocks (omega (arith, c.if-first-last.false)) (omega (arith, c.min-last.ensures))

pub returns-clause-same : goal.returns-clause-same
returns-clause-same c =
    part_same c.args.values.now c.args.sorted.now c.args.from c.args.to ((c.args.from + 31) / 32) (c.min-last.result / 32) c.requires.sorted (omega arith)
    (omega (arith, c.if-first-last.false)) (omega (arith, c.min-last.ensures)) (omega (arith, c.min-last.ensures))
