use Rattle.std.proofs.{Common.{ℕ, ◌+◌, ◌*◌, false, inl, inr, refl, min, arith}, lemmas.Bool.cases_lt}
use Rattle.cost_certificate.{specs.Checks.PlaceHoldsInBlock, proofs.Watches.watches-later, proofs.Bools.not_both}
use Rattle.cost_certificate.proofs.blocks.blocks_hold.Goals as goal

pub returns-then-not-block_holds : goal.returns-then-not-block_holds
returns-then-not-block_holds c =
    let block = c.block_holds.ensures.holds.1 in (
      λ e. absurd (not_both false refl e),
      λ all. absurd (not_both c.block_holds.result c.if-not-block_holds.true
          (block (λ s lt t above behind within opened. all s t above (omega (arith, above)) (omega (arith, within, c.min.ensures, c.len-n.ensures)) opened))),
    )

pub loop-k-preserved : goal.loop-k-preserved
loop-k-preserved c =
    let here = c.block_holds.ensures.holds.0 c.if-not-block_holds.false in
    let before = c.loop-k.invariant.holds in
    let all : (s : ℕ) → PlaceHoldsInBlock c.args.tables.now s 0 (min c.len-n.result ((c.loop-k.k + 1) * 32)) =
    λ s t above behind within opened. elim (cases_lt (c.loop-k.k * 32) t) [
      | inl later ↦ here s (omega (arith, above, within, c.min.ensures)) t above later (omega (arith, within, c.min.ensures)) opened
      | inr earlier ↦ before s t above behind (omega (arith, within, earlier)) opened
    ] in
    record {
      holds = all;
      watches = watches-later c.args.tables.now (c.loop-k.k * 32 + 32) ((c.loop-k.k + 1) * 32) _ (omega arith) c.block_holds.ensures.watches;
    }

pub returns : goal.returns
returns c =
    (λ e s t above behind within opened. c.loop-k.invariant.holds s t above behind (omega (arith, within, c.loop-k-test.false, c.blocks_of-k-end.ensures.enough, c.len-n.ensures)) opened, λ all. refl)
