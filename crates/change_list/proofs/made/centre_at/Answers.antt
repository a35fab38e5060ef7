use Rattle.std.{proofs.Common.FitsSigned, specs.Int.w64, proofs.lemmas.Int.to_z-of_z}
use Rattle.segment_model.{specs.Segments.{IsCentre, segment}, proofs.CentreAt.centre-at}
use Rattle.change_list.proofs.made.centre_at.Goals as goal

pub returns : goal.returns
returns c =
    let fits : FitsSigned w64 c.centre.result = record { sfits = c.centre.type_inv } in
    let is : IsCentre (segment c.args.points.now c.args.low c.args.high) c.centre.result =
    centre-at c.values_law.ensures.of_points c.segment_law.ensures.some c.centre_law.ensures.by_division c.args.points.now c.args.square.now.positions
    c.requires.stands c.limits.ensures c.args.low c.args.high c.requires.rising c.requires.placed c.centre.result c.centre.ensures in
    simp to_z-of_z is
