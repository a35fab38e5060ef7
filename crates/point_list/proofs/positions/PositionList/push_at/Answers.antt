use Rattle.std.proofs.{Common.{◌≡◌, ◌∙◌, ◌<◌, ℕ, List, Result, Ok, Err, OnOk, FitsSigned, w64, length, get_or, set, ap, ap₂, arith}, lemmas.Int.to_z-of_z}
use Rattle.std.proofs.lemmas.{List.get_or_read, Grind.common_steps}
use Rattle.segment_model.specs.{Segments.{Observation, Position}, Edits.with_value}
use Rattle.point_list.{specs.Slots.in_order, proofs.Slots.{below-at, order-length, order-read, order-set}}
use Rattle.point_list.proofs.positions.PositionList.push_at.Goals as goal

on_ok : {T E : Type 0} (r : Result T E) {P Q : Type 0} → OnOk r P → (P → Q) → OnOk r Q
on_ok (Ok v) ok step = step ok
on_ok (Err e) ok step = ok

pub index_mut-position-requires : goal.index_mut-position-requires
index_mut-position-requires c = grind (arith, common_steps, length, order-length, below-at)

pub returns-clause-ok : goal.returns-clause-ok
returns-clause-ok c d =
    let fits : FitsSigned w64 c.args.value = c.ranges.value in
    let pushed = simp to_z-of_z at c.push.ensures.ok in
    let slots : List Position = c.self.inside.slots.items in
    let order : List ℕ = c.self.inside.order.items in
    let place : ℕ = c.args.place in
    let x : Observation = record { step = c.args.step; value = c.args.value } in
    let lt : place < length order = omega (arith, c.requires, order-length slots order c.args.self.now c.self.view_is) in
    let slot_is : c.from-slot.result ≡ get_or order place 0 = c.from-slot.ensures ∙ get_or_read order place c.index.result.now lt c.index.ensures 0 in
    let old_is : c.index_mut-position.result.now ≡ get_or c.args.self.now place d =
    order-read slots order c.args.self.now place c.from-slot.result c.index_mut-position.result.now d c.self.invariant c.self.view_is lt slot_is c.index_mut-position.ensures.value in
    on_ok c.push.result pushed (λ longer.
    ap (λ s. in_order (set slots s c.push.new.self) order) slot_is
    ∙ order-set slots order place 0 c.push.new.self c.self.invariant.below c.self.invariant.once lt
    ∙ ap₂ (λ ps p. set ps place p) c.self.view_is (longer ∙ ap (with_value x) old_is))
