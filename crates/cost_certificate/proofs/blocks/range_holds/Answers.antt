use Rattle.std.proofs.Common.{ℕ, false, refl, arith}
use Rattle.cost_certificate.{specs.Checks.PlaceHoldsInBlock, proofs.Loops.one-more-between, proofs.Bools.not_both}
use Rattle.cost_certificate.proofs.blocks.range_holds.Goals as goal

pub returns-then-not-place_holds : goal.returns-then-not-place_holds
returns-then-not-place_holds c =
    let place = c.place_holds.ensures.1 in (
      λ e. absurd (not_both false refl e),
      λ all. absurd (not_both c.place_holds.result c.if-not-place_holds.true (place (all c.loop-s.s (omega (arith, c.loop-s.auto.s)) (omega (arith, c.loop-s-test.true))))),
    )

pub loop-s-preserved : goal.loop-s-preserved
loop-s-preserved c =
    one-more-between (λ (s : ℕ). PlaceHoldsInBlock c.args.tables.now s c.args.from c.args.end) c.args.start c.loop-s.s c.loop-s.invariant
    (c.place_holds.ensures.0 c.if-not-place_holds.false)

pub returns : goal.returns
returns c = (λ e s from lt. c.loop-s.invariant s from (omega (arith, lt, c.loop-s-test.false)), λ all. refl)
