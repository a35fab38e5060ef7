use Rattle.std.proofs.{Common.{ℕ, ◌+◌, ◌*◌, ◌/◌, ◌<◌, false, inl, inr, refl, arith}, lemmas.Bool.cases_lt}
use Rattle.cost_certificate.{specs.Checks.{PlaceHoldsInBlock, watch_at}, proofs.Watches.{watch-set, passed}, proofs.Bools.not_both}
use Rattle.cost_certificate.proofs.blocks.fronts_hold.Goals as goal

pub loop-j-init : goal.loop-j-init
loop-j-init c =
    record {
      holds = λ s below.
          let j : ℕ = s / 32 in
          let open' : j < c.first_open-j.result = omega (arith, below) in
          passed c.args.tables.now c.args.need (watch_at c.args.watches.now j)
          (j * 32) (j * 32 + 32) (c.args.k * 32) c.args.end c.requires.placed c.requires.inside (omega (arith, open', c.first_open-j.ensures.within)) c.requires.need
          (c.requires.watches.each j (omega (arith, open', c.first_open-j.ensures.within, c.requires.block))) (inl (c.first_open-j.ensures.shut j open')) s (omega arith) (omega arith);
      watches = c.requires.watches;
    }

pub returns-in_default-clause-holds : goal.returns-in_default-clause-holds
returns-in_default-clause-holds c =
    let none = c.in_default.ensures.none in (
      λ e. absurd (not_both false refl e),
      λ all. absurd (none (λ s above below. all s (omega (arith, below, c.loop-j-test.true)))),
    )

pub loop-j-preserved : goal.loop-j-preserved
loop-j-preserved c =
    let here = c.in-Some.ensures.holds in
    let before = c.loop-j.invariant.holds in
    let watch = c.in-Some.ensures.watch in
    let all : (s : ℕ) → s < (c.loop-j.j + 1) * 32 → PlaceHoldsInBlock c.args.tables.now s (c.args.k * 32) c.args.end =
    λ s below. elim (cases_lt s (c.loop-j.j * 32)) [
      | inl earlier ↦ before s earlier
      | inr behind ↦ here s (omega (arith, behind)) (omega (arith, below))
    ] in
    record {
      holds = all;
      watches = watch-set c.args.tables.now (c.args.k * 32) c.loop-j.j c.in-Some.watch c.loop-j.watches
          (omega (arith, c.loop-j-test.true, c.requires.block)) c.loop-j.invariant.watches watch;
    }

pub returns-clause-holds : goal.returns-clause-holds
returns-clause-holds c =
    (λ e s lt. c.loop-j.invariant.holds s (omega (arith, lt, c.loop-j-test.false)), λ all. refl)
