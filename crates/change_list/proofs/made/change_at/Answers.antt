use Rattle.std.{proofs.Common.FitsSigned, specs.Int.w64, proofs.lemmas.Int.to_z-of_z}
use Rattle.segment_model.specs.Segments.{IsCentre, segment}
use Rattle.change_list.proofs.made.change_at.Goals as goal

pub returns : goal.returns
returns c =
    let between = c.requires.between in
    let left_fits : FitsSigned w64 c.centre_at-left.result = record { sfits = c.centre_at-left.type_inv } in
    let right_fits : FitsSigned w64 c.centre_at-right.result = record { sfits = c.centre_at-right.type_inv } in
    let left : IsCentre (segment c.args.points.now c.args.low c.args.cut) c.centre_at-left.result = c.centre_at-left.ensures in
    let right : IsCentre (segment c.args.points.now c.args.cut c.args.high) c.centre_at-right.result = c.centre_at-right.ensures in
    let worse = simp to_z-of_z at c.is_worse.ensures in
    simp to_z-of_z (record {
      before = c.commit.ensures;
      after = c.commit-2.ensures;
      left = left;
      right = right;
      differ = between.differ c.centre_at-left.result c.centre_at-right.result left right;
      worse = worse;
    })
