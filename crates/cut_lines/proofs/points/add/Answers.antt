use Rattle.std.proofs.Common.{Err, refl, inr, ap, ◌∙◌, arith}
use Rattle.segment_model.proofs.Inserted.{size-new}
use Rattle.cut_lines.proofs.points.add.Goals as goal

pub returns-in-Err-PositionsFull-clause-err : goal.returns-in-Err-PositionsFull-clause-err
returns-in-Err-PositionsFull-clause-err c line cut =
    let full = c.insert_near.ensures.positions_full.0 (c.in-Err-PositionsFull.is ∙ ap Err c.in-Err-PositionsFull.field-0-is) in
    let more = size-new c.args.order (record { step = c.args.number; value = c.args.value }) c.args.points.now full.1 in
    (refl, cut.short, (c.args.order, c.args.value, cut, inr (omega (arith, more, full.2, c.requires.most))))
