use Rattle.std.{proofs.Common.{◌≡◌, ◌∙◌, ◌<◌, ◌+◌, ◌-◌, length, map, ap, ap₂, arith}, specs.Prelude.remove, specs.List.swap_remove}
use Rattle.std.{specs.VecDeque.deque_with_items, proofs.lemmas.Grind.common_steps}
use Rattle.point_list.{specs.Slots.{in_order, renamed}, proofs.Slots.{below-at, order-length, order-remove, order-shorter}}
use Rattle.point_list.proofs.positions.PositionList.remove.Goals.{After-rename}
use Rattle.point_list.proofs.positions.PositionList.remove.Goals as goal

pub swap_remove-requires : goal.swap_remove-requires
swap_remove-requires c = grind (arith, common_steps, length, order-length, below-at)

-- the order, and the slots, as they are left
order-is : (c : After-rename) → (deque_with_items c.remove.new.self c.rename.new.order).items ≡ map (renamed (c.len.result - 1) c.in-Some.slot) (remove c.self.inside.order.items c.args.place)
order-is c = grind (arith, common_steps)

slots-are : (c : After-rename) → c.swap_remove.new.self.items ≡ swap_remove c.self.inside.slots.items c.in-Some.slot c.swap_remove.result
slots-are c = c.swap_remove.ensures.items ∙ ap (λ s. swap_remove c.self.inside.slots.items s c.swap_remove.result) c.from.ensures

module _ (c : After-rename) where
  lt : c.args.place < length c.self.inside.order.items
  lt = omega (arith, c.requires, order-length c.self.inside.slots.items c.self.inside.order.items c.args.self.now c.self.view_is)

  is_last : c.len.result - 1 + 1 ≡ length c.self.inside.slots.items
  is_last = omega (arith, lt, c.len.ensures, c.self.inside.slots.ok.0, c.self.invariant.as_many)

pub invariant_of-self : goal.invariant_of-self
invariant_of-self c = grind (arith, common_steps, goal.at.invariant_of-self, slots-are, order-is, order-shorter)

pub returns : goal.returns
returns c = grind (arith, common_steps, goal.at.returns, ap₂, in_order, slots-are, order-is, order-remove, remove)
