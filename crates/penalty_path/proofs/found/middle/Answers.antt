use Rattle.std.{proofs.Common.{pos, ◌-ℤ◌, ◌≤ℤ◌, FitsSigned, refl, arith}, specs.Int.w128, proofs.lemmas.Int.{ints, to_z-of_z}}
use Rattle.penalty_path.proofs.Crossing.{parts-last}
use Rattle.penalty_path.proofs.found.middle.Goals as goal

pub returns-then-crossing-next-clause-parts : goal.returns-then-crossing-next-clause-parts
returns-then-crossing-next-clause-parts c =
    let p = c.args.next.now.penalty in
    let fits : FitsSigned w128 c.args.next.now.penalty = omega (arith, ints, c.requires.next_bounded.low, c.requires.next_bounded.high) in
    let less_fits : FitsSigned w128 (c.args.next.now.penalty -ℤ pos 1) = omega (arith, ints, c.requires.next_bounded.low, c.requires.next_bounded.high) in
    let le : c.args.next.now.penalty ≤ℤ c.crossing-crossing.result = omega (arith, ints, c.if-crossing-next.true) in
    simp (to_z-of_z w128 c.args.next.now.penalty fits, to_z-of_z w128 (c.args.next.now.penalty -ℤ pos 1) less_fits)
    (parts-last c.args.last.now c.args.next.now c.crossing-crossing.result c.crossing-crossing.ensures (c.args.next.now.penalty -ℤ pos 1) refl le)
