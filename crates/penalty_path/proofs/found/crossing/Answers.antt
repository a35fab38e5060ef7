use Rattle.std.{proofs.Common.{◌≡◌, ◌+◌, ◌-◌, ◌<◌, length, ◌-ℤ◌, FitsSigned, ap, ◌∙◌, arith}, specs.Int.{w128, int_div_euclid}}
use Rattle.std.proofs.lemmas.Int.{ints, to_z-of_z}
use Rattle.penalty_path.proofs.Crossing.{crosses}
use Rattle.penalty_path.proofs.found.crossing.Goals as goal

pub returns : goal.returns
returns c =
    let next_fits : FitsSigned w128 c.costs.result = record { sfits = c.costs.type_inv } in
    let last_fits : FitsSigned w128 c.costs-2.result = record { sfits = c.costs-2.type_inv } in
    let more_fits : FitsSigned w128 c.cuts_more.result = record { sfits = c.cuts_more.type_inv } in
    let fits : FitsSigned w128 c.div_euclid.result = record { sfits = c.div_euclid.type_inv } in
    let difference_fits : FitsSigned w128 (c.costs.result -ℤ c.costs-2.result) = omega (arith, ints, c.costs.ensures.above, c.costs.ensures.below, c.costs-2.ensures.above, c.costs-2.ensures.below) in
    let is = simp (
      to_z-of_z w128 c.costs.result next_fits,
      to_z-of_z w128 c.costs-2.result last_fits,
      to_z-of_z w128 c.cuts_more.result more_fits,
      to_z-of_z w128 (c.costs.result -ℤ c.costs-2.result) difference_fits,
    ) at c.div_euclid.ensures in
    let more : length c.args.last.now.cuts ≡ length c.args.next.now.cuts + (length c.args.last.now.cuts - length c.args.next.now.cuts) = omega (arith, c.requires.fewer) in
    let some : 0 < length c.args.last.now.cuts - length c.args.next.now.cuts = omega (arith, c.requires.fewer) in
    simp (to_z-of_z w128 c.div_euclid.result fits) (crosses c.args.last.now c.args.next.now c.costs-2.result c.costs.result (length c.args.last.now.cuts - length c.args.next.now.cuts) more some
    c.costs-2.ensures.total c.costs.ensures.total c.div_euclid.result (is ∙ ap (int_div_euclid (c.costs.result -ℤ c.costs-2.result)) c.cuts_more.ensures))
