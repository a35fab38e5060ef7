use Rattle.std.{proofs.Common.{length, arith}, specs.Arc.arc_value, proofs.lemmas.Grind.common_steps}
use Rattle.point_list.proofs.Joined.{row-length}
use Rattle.point_list.proofs.frozen.Row.len.Goals as goal

pub overflow_mul-result : goal.overflow_mul-result
overflow_mul-result c = grind (arith, common_steps, row-length, arc_value)

pub overflow_add-result : goal.overflow_add-result
overflow_add-result c = grind (arith, common_steps, row-length, arc_value)

pub returns : goal.returns
returns c = grind (arith, common_steps, row-length, arc_value, length)
