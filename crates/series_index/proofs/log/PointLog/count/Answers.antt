use Rattle.std.proofs.{Common.{length, arith}, lemmas.Grind.common_steps}
use Rattle.series_index.proofs.Placing.{count-placed}
use Rattle.series_index.proofs.log.PointLog.count.Goals as goal

pub overflow_add-result : goal.overflow_add-result
overflow_add-result c = grind (arith, common_steps, count-placed)

pub returns : goal.returns
returns c = grind (arith, common_steps, count-placed, length)
