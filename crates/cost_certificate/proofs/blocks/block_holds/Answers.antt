use Rattle.std.proofs.{Common.{◌+◌, ◌*◌, false, inl, inr, refl, arith}, lemmas.Bool.cases_lt}
use Rattle.cost_certificate.proofs.{Watches.watches-later, Bools.not_both}
use Rattle.cost_certificate.proofs.blocks.block_holds.Goals as goal

pub returns-then-not-fronts_hold-clause-holds : goal.returns-then-not-fronts_hold-clause-holds
returns-then-not-fronts_hold-clause-holds c =
    let front = c.fronts_hold.ensures.holds.1 in (
      λ e. absurd (not_both false refl e),
      λ all. absurd (not_both c.fronts_hold.result c.if-not-fronts_hold.true (front (λ s below. all s (omega (arith, below, c.requires.inside))))),
    )

pub returns-then-not-fronts_hold-clause-watches : goal.returns-then-not-fronts_hold-clause-watches
returns-then-not-fronts_hold-clause-watches c =
    watches-later c.args.tables.now (c.args.k * 32) (c.args.k * 32 + 32) _ (omega arith) c.fronts_hold.ensures.watches

pub returns-clause-holds : goal.returns-clause-holds
returns-clause-holds c =
    let front = c.fronts_hold.ensures.holds.0 c.if-not-fronts_hold.false in
    let own = c.own_holds.ensures in (
      λ e s below. elim (cases_lt s (c.args.k * 32)) [
        | inl before ↦ front s before
        | inr behind ↦ own.0 e s behind below
      ],
      λ all. own.1 (λ s behind below. all s below),
    )

pub returns-clause-watches : goal.returns-clause-watches
returns-clause-watches c =
    watches-later c.args.tables.now (c.args.k * 32) (c.args.k * 32 + 32) _ (omega arith) c.fronts_hold.ensures.watches
