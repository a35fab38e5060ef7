use Rattle.std.{specs.Int.w128, proofs.lemmas.Int.to_z-of_z}
use Rattle.penalty_path.specs.Paths.{IsPath}
use Rattle.penalty_path.proofs.found.path.Goals as goal

pub returns-clause-short : goal.returns-clause-short
returns-clause-short c =
    let is : IsPath c.args.points.now c.args.low c.args.high c.in_ok-counted.counted.stretches = simp (to_z-of_z w128 c.args.low c.ranges.low, to_z-of_z w128 c.args.high c.ranges.high) at c.in_ok-counted.ensures.path in
    c.path_law.ensures.short c.args.points.now c.args.low c.args.high c.in_ok-counted.counted.stretches is
