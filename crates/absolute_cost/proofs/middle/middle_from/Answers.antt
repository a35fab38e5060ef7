use Rattle.std.proofs.{Common.{◌≡◌, ◌+◌, ◌*◌, ◌<◌, ℤ, FitsSigned, w64, arith, length, subst}, lemmas.Int.to_z-of_z}
use Rattle.distance_model.specs.Middles.{at_most}
use Rattle.absolute_cost.{specs.Numbers.number_of, specs.Blocks.all_of, proofs.Numbers.{raise, ends}}
use Rattle.absolute_cost.proofs.middle.middle_from.Goals as goal

pub loop-low-preserved : goal.loop-low-preserved
loop-low-preserved c =
    let least_fits : FitsSigned w64 c.args.least = c.ranges.least in
    let fits : FitsSigned w64 c.number_at.result = record { sfits = c.number_at.type_inv } in
    let halves = simp to_z-of_z at c.loop-low.invariant in
    let number : c.number_at.result ≡ number_of c.args.least (c.loop-low.low + c.step.result) = simp to_z-of_z at c.number_at.ensures in
    let count : c.count_at_most-here.result ≡ at_most c.number_at.result (all_of c.args.pieces.head.now c.args.pieces.whole.now c.args.pieces.tail.now) = simp to_z-of_z at c.count_at_most-here.ensures in
    let few : 2 * at_most c.number_at.result (all_of c.args.pieces.head.now c.args.pieces.whole.now c.args.pieces.tail.now) < length (all_of c.args.pieces.head.now c.args.pieces.whole.now c.args.pieces.tail.now) = omega (arith, count, c.if-here-count.false) in
    let test : 2 * at_most (number_of c.args.least (c.loop-low.low + c.step.result)) (all_of c.args.pieces.head.now c.args.pieces.whole.now c.args.pieces.tail.now) < length (all_of c.args.pieces.head.now c.args.pieces.whole.now c.args.pieces.tail.now) = subst (λ (z : ℤ). 2 * at_most z (all_of c.args.pieces.head.now c.args.pieces.whole.now c.args.pieces.tail.now) < length (all_of c.args.pieces.head.now c.args.pieces.whole.now c.args.pieces.tail.now)) number few in
    simp to_z-of_z (raise (all_of c.args.pieces.head.now c.args.pieces.whole.now c.args.pieces.tail.now) c.args.least c.args.span c.loop-low.low c.loop-low.high (c.loop-low.low + c.step.result) halves (omega (arith, c.loop-low-test.true)) test)

pub returns-clause-middle : goal.returns-clause-middle
returns-clause-middle c =
    let least_fits : FitsSigned w64 c.args.least = c.ranges.least in
    let fits : FitsSigned w64 c.number_at-2.result = record { sfits = c.number_at-2.type_inv } in
    let halves = simp to_z-of_z at c.loop-low.invariant in
    let number = simp to_z-of_z at c.number_at-2.ensures in
    simp to_z-of_z (ends (all_of c.args.pieces.head.now c.args.pieces.whole.now c.args.pieces.tail.now) c.args.least c.args.span c.loop-low.low c.loop-low.high c.number_at-2.result c.requires.some halves c.loop-low-test.false number)
