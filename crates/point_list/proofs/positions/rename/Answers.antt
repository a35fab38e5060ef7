use Rattle.std.proofs.{Common.{◌∙◌, ◌<◌, ℕ, List, length, ap, set, get_or, arith}, lemmas.List.get_or_default, lemmas.List.Edits.map_over_more}
use Rattle.point_list.specs.Slots.{renamed}
use Rattle.point_list.proofs.positions.rename.Goals as goal

pub loop-slot-preserved : goal.loop-slot-preserved
loop-slot-preserved c =
    let i : ℕ = c.loop-slot.slot-index in
    let order : List ℕ = c.loop-slot.order in
    let within : i < length order = omega (arith, c.loop-slot-test.true, c.loop-slot.auto.order) in
    ap (set order i) c.name_of.ensures
    ∙ map_over_more (renamed c.args.from c.args.to) c.args.order.now order i (get_or order i 0) (omega (arith, within, c.loop-slot.auto.order)) c.loop-slot.invariant
    (get_or_default order i 0 (get_or order i 0) within)
