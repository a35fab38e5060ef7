use Rattle.std.{proofs.Common.{false, refl, FitsSigned, rules, arith}, specs.Int.w128, proofs.lemmas.Int.{ints, to_z-of_z}}
use Rattle.cost_certificate.{specs.Checks.{PairHolds, total_at}, proofs.Loops.one-more, proofs.Floors.first-floor, proofs.Bools.not_both}
use Rattle.cost_certificate.proofs.entries.pairs_hold.Goals as goal

pub loop-t-init : goal.loop-t-init
loop-t-init c =
    let fits : FitsSigned w128 (total_at c.args.tables.now c.args.s) = search rules in
    simp to_z-of_z (record {
      pairs = λ t above below. absurd (omega (arith, above, below));
      floor = first-floor c.args.tables.now c.args.s c.args.from c.requires.placed (omega (arith, c.requires.placed, c.requires.inside));
    })

pub returns-in_default : goal.returns-in_default
returns-in_default c =
    (λ e. absurd (not_both false refl e), λ all. absurd (c.in_default.ensures.none (all c.loop-t.t (omega (arith, c.loop-t.auto.t)) (omega (arith, c.loop-t-test.true)))))

pub loop-t-preserved : goal.loop-t-preserved
loop-t-preserved c =
    let next = c.in-Some.ensures.floor in
    let fits : FitsSigned w128 c.in-Some.next = omega (arith, ints, next.low, next.high) in
    simp to_z-of_z (record {
      pairs = one-more (PairHolds c.args.tables.now c.args.s) c.args.from c.loop-t.t c.loop-t.invariant.pairs c.in-Some.ensures.holds;
      floor = next;
    })

pub returns : goal.returns
returns c = (λ e t above le. c.loop-t.invariant.pairs t above (omega (arith, le, c.loop-t-test.false)), λ all. refl)
