use Rattle.absolute_cost.proofs.Counts.{sorted_from}
use Rattle.absolute_cost.proofs.blocks.sort_from.Goals as goal

pub returns : goal.returns
returns c = sorted_from c.args.start c.args.list.now c.sort_unstable.new.self c.requires c.sort_unstable.ensures.permutation c.sort_unstable.ensures.len c.sort_unstable.ensures.sorted
