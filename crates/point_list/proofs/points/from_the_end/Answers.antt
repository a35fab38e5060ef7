use Rattle.std.proofs.Common.{◌-◌, arith}
use Rattle.segment_model.specs.Segments.{Position}
use Rattle.point_list.proofs.Places.{less-throughout, less-up-to}
use Rattle.point_list.proofs.points.from_the_end.Goals as goal

pub returns-then-commit-2-clause-below : goal.returns-then-commit-2-clause-below
returns-then-commit-2-clause-below c k d lt =
    let p : Position = c.at-position.result.now in
    less-throughout c.args.positions.now c.requires k (c.len-count.result - 1) p c.args.commit d (c.at-position.ensures p)
    (omega (arith, c.commit-2.ensures, c.if-commit-2.true)) lt (omega (arith, lt, c.len-count.ensures))

pub returns-clause-below : goal.returns-clause-below
returns-clause-below c k d lt =
    let p : Position = c.at-position.result.now in
    less-up-to c.args.positions.now c.requires k (c.len-count.result - 1) p c.args.commit d (c.at-position.ensures p)
    (omega (arith, c.commit.ensures, c.commit-2.ensures, c.if-commit.false, c.if-commit-2.false)) lt (omega (arith, c.if-count-eq0.false, c.len-count.ensures))
