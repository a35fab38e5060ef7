use Rattle.std.{proofs.Common.{◌+ℤ◌, FitsSigned, arith}, specs.Int.w128, proofs.lemmas.Int.{ints, to_z-of_z}}
use Rattle.cost_certificate.proofs.entries.pair_holds.Goals as goal

pub order_holds-requires-clause-made : goal.order_holds-requires-clause-made
order_holds-requires-clause-made c =
    let made_low = c.requires.made_low in
    let made_high = c.requires.made_high in
    let b_low = c.args.tables.now.low in
    let b_high = c.args.tables.now.high in
    let fits : FitsSigned w128 c.args.from_here = c.ranges.from_here in
    let b_fits : FitsSigned w128 c.args.tables.now.penalty = omega (arith, ints, b_low, b_high) in
    let made_fits : FitsSigned w128 (c.args.from_here +ℤ c.args.tables.now.penalty) = omega (arith, ints, made_low, made_high, b_low, b_high) in
    simp to_z-of_z (omega (arith, ints, c.requires.made))

pub returns : goal.returns
returns c = (
  λ e. (c.order_holds.ensures.0 c.if-not-order_holds.false, c.mark_holds.ensures.0 e),
  λ all. c.mark_holds.ensures.1 all.1,
)
