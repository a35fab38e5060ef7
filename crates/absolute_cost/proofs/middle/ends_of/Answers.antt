use Rattle.segment_model.specs.Limits.{IsSmall}
use Rattle.absolute_cost.proofs.Counts.{in_head, in_whole, in_tail, between_parts}
use Rattle.absolute_cost.proofs.middle.ends_of.Goals as goal

pub with_values-requires-clause-all_small : goal.with_values-requires-clause-all_small
with_values-requires-clause-all_small c = in_tail IsSmall c.args.pieces.head.now c.args.pieces.whole.now c.args.pieces.tail.now c.requires.small

pub with_blocks-inside-requires-clause-all_small : goal.with_blocks-inside-requires-clause-all_small
with_blocks-inside-requires-clause-all_small c = in_whole IsSmall c.args.pieces.head.now c.args.pieces.whole.now c.args.pieces.tail.now c.requires.small

pub with_values-requires-2-clause-all_small : goal.with_values-requires-2-clause-all_small
with_values-requires-2-clause-all_small c = in_head IsSmall c.args.pieces.head.now c.args.pieces.whole.now c.args.pieces.tail.now c.requires.small

pub returns-clause-between : goal.returns-clause-between
returns-clause-between c =
    between_parts c.args.pieces.head.now c.args.pieces.whole.now c.args.pieces.tail.now c.with_values.result c.with_blocks-inside.result c.with_values-2.result
    c.with_values.ensures.between c.with_blocks-inside.ensures.wider c.with_blocks-inside.ensures.between c.with_values-2.ensures.wider c.with_values-2.ensures.between
