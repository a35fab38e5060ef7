use Rattle.std.proofs.{Common.{◌≡◌, ◌⊎◌, inl, inr, arith}, lemmas.Bool.cases_lt}
use Rattle.cost_certificate.proofs.Needs.{to-block, from-block}
use Rattle.cost_certificate.proofs.blocks.place_holds.Goals as goal

pub returns : goal.returns
returns c =
    let pairs = c.pairs_hold.ensures in
    let low_one : (c.max.result ≡ c.args.s) ⊎ (c.max.result ≡ c.args.from) = elim (cases_lt c.args.s c.args.from) [ inl lt ↦ inr (omega (arith, lt, c.max.ensures)) | inr ge ↦ inl (omega (arith, ge, c.max.ensures)) ] in
    let high_end = c.last_open.ensures.within in (
      λ holds. to-block c.args.tables.now c.args.s c.args.from c.args.end c.max.result c.last_open.result
          (omega (arith, c.max.ensures)) (omega (arith, c.max.ensures)) low_one high_end c.last_open.ensures.open c.last_open.ensures.all (pairs.0 holds),
      λ all. pairs.1 (from-block c.args.tables.now c.args.s c.args.from c.args.end c.max.result c.last_open.result
          (omega (arith, c.max.ensures)) (omega (arith, c.max.ensures)) low_one high_end c.last_open.ensures.open c.last_open.ensures.all all),
    )
