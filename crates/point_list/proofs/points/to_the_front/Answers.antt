use Rattle.std.proofs.Common.{arith}
use Rattle.segment_model.specs.Segments.{Position}
use Rattle.point_list.proofs.Places.{all-from}
use Rattle.point_list.proofs.points.to_the_front.Goals as goal

pub returns-then-commit-clause-rest : goal.returns-then-commit-clause-rest
returns-then-commit-clause-rest c =
    let p : Position = c.at-position.result.now in
    all-from c.args.commit c.args.positions.now c.requires 0 p (omega (arith, c.if-count-eq0.false, c.len-count.ensures)) (c.at-position.ensures p) (omega (arith, c.commit.ensures, c.if-commit.true))
