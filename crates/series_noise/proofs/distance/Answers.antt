use Rattle.std.{proofs.Common.{◌+◌, FitsSigned, arith}, specs.Int.w64, proofs.lemmas.Int.to_z-of_z}
use Rattle.segment_model.{specs.Segments.{segment, IsCentre}, proofs.CentreAt.centre-at}
use Rattle.series_noise.proofs.distance.Goals as goal

pub returns : goal.returns
returns c =
    let before_fits : FitsSigned w64 c.centre-before.result = record { sfits = c.centre-before.type_inv } in
    let after_fits : FitsSigned w64 c.centre-after.result = record { sfits = c.centre-after.type_inv } in
    let points = c.args.points.now in
    let before : IsCentre (segment points c.args.i (c.args.i + 1)) c.centre-before.result =
    centre-at c.values_law.ensures.of_points c.segment_law.ensures.some c.centre_law.ensures.by_division points c.args.square.now.positions
    c.requires.stands c.limits.ensures c.args.i (c.args.i + 1) (omega arith) (omega (arith, c.requires.placed)) c.centre-before.result c.centre-before.ensures in
    let after : IsCentre (segment points (c.args.i + 1) (c.args.i + 2)) c.centre-after.result =
    centre-at c.values_law.ensures.of_points c.segment_law.ensures.some c.centre_law.ensures.by_division points c.args.square.now.positions
    c.requires.stands c.limits.ensures (c.args.i + 1) (c.args.i + 2) (omega arith) (omega (arith, c.requires.placed)) c.centre-after.result c.centre-after.ensures in
    let apart = simp to_z-of_z at c.abs_diff.ensures in
    record {
      before = c.centre-before.result;
      after = c.centre-after.result;
      centre_before = before;
      centre_after = after;
      apart = apart;
    }
