use Rattle.std.{proofs.Common.{◌≡◌, ◌<◌, length, get_or, set, sym, subst, arith}, specs.Prelude.filter, proofs.lemmas.Grind.common_steps}
use Rattle.segment_model.specs.{Segments.Position, Limits.HasStepsInOrder}
use Rattle.point_list.{specs.Slots.in_order, proofs.Slots.{below-at, order-length, order-read, order-set}}
use Rattle.point_list.proofs.positions.PositionList.take_step_at.Goals.{After-index_mut-position}
use Rattle.point_list.proofs.positions.PositionList.take_step_at.Goals as goal

pub index_mut-position-requires : goal.index_mut-position-requires
index_mut-position-requires c = grind (arith, common_steps, length, order-length, below-at)

slot-is : (c : After-index_mut-position) → c.from-slot.result ≡ get_or c.self.inside.order.items c.args.place 0
slot-is c = grind (arith, common_steps)

old-is : (c : After-index_mut-position) (d : Position) → c.index_mut-position.result.now ≡ get_or c.args.self.now c.args.place d
old-is c d = grind (arith, common_steps, length, order-length, order-read, slot-is)

pub returns-clause-left : goal.returns-clause-left
returns-clause-left c d = grind (arith, common_steps, length, order-length, filter, in_order, set, slot-is, goal.at.returns-clause-left, order-set)

pub returns-clause-gone : goal.returns-clause-gone
returns-clause-gone c d = grind (arith, common_steps, get_or, old-is, goal.at.returns-clause-gone, length, filter)

pub take_step-requires : goal.take_step-requires
take_step-requires c =
    let seen : Position = c.index_mut-position.result.now in
    let lt : c.args.place < length c.args.self.now = c.requires.place in
    subst HasStepsInOrder (sym (old-is (goal.at.take_step-requires c).After-index_mut-position seen)) (c.requires.in_order c.args.place seen lt)
