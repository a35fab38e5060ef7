use Rattle.std.{proofs.Common.{length, ap₂, arith}, specs.Prelude.insert, proofs.lemmas.Grind.common_steps}
use Rattle.point_list.{specs.Slots.in_order, proofs.Slots.{order-length, order-insert, order-longer}}
use Rattle.point_list.proofs.positions.PositionList.insert.Goals as goal

pub invariant_of-self-2 : goal.invariant_of-self-2
invariant_of-self-2 c = grind (arith, common_steps, length, insert, order-length, order-longer)

pub returns-clause-ok : goal.returns-clause-ok
returns-clause-ok c = grind (arith, common_steps, length, insert, ap₂, in_order, order-insert)
