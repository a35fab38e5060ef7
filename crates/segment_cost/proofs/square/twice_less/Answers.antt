use Rattle.std.proofs.{lemmas.Int.to_z-of_z, Common.arith, lemmas.Grind.common_steps}
use Rattle.segment_cost.proofs.{Squares.{Fit, fit}, square.twice_less.Goals.After-from}
use Rattle.segment_cost.proofs.square.twice_less.Goals as goal

fits : (c : After-from) → Fit c.args.sums.count c.args.sums.sum c.args.sums.squares c.args.c
fits c = fit c.args.sums.count c.args.sums.sum c.args.sums.squares c.args.c c.requires.range c.requires.small

pub overflow_mul-result-2 : goal.overflow_mul-result-2
overflow_mul-result-2 c = grind (arith, common_steps)

pub overflow_sub-result : goal.overflow_sub-result
overflow_sub-result c = grind (arith, common_steps, fits, goal.at.overflow_sub-result, to_z-of_z)

pub returns : goal.returns
returns c = grind (arith, common_steps, fits, goal.at.returns, to_z-of_z)
