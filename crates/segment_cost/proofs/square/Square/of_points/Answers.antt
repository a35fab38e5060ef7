use Rattle.std.proofs.{Common.{length, arith}, lemmas.Grind.common_steps}
use Rattle.segment_model.proofs.Filling.{filled-next, filled-within, filled-all}
use Rattle.segment_cost.proofs.square.Square.of_points.Goals as goal

pub push-requires-clause-limits : goal.push-requires-clause-limits
push-requires-clause-limits c = grind (arith, common_steps, length, filled-within)

pub loop-i-preserved : goal.loop-i-preserved
loop-i-preserved c = grind (arith, common_steps, length, filled-next)

pub returns : goal.returns
returns c = filled-all c.args.points.now c.loop-i.i c.loop-i.square.positions (omega (arith, c.loop-i-test.false, c.len-i-end.ensures)) (omega (arith, c.loop-i.auto.i-end, c.len-i-end.ensures)) c.loop-i.invariant
