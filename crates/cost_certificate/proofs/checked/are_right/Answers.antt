use Rattle.std.{proofs.Common.{false, refl, FitsSigned, rules, arith}, specs.Int.w128, proofs.lemmas.Int.{ints, to_z-of_z}}
use Rattle.cost_certificate.{specs.Checks.{AreRight, cost_in, last_place, total_at}, proofs.Whole.{IsLookedAt, verified, rows-hold, places-hold}}
use Rattle.cost_certificate.proofs.{Bools.not_both, checked.are_right.Goals.After-verifying_law}
use Rattle.cost_certificate.proofs.checked.are_right.Goals as goal

module _ (c : After-verifying_law) where
  looked_at : AreRight c.args.tables.now → IsLookedAt c.args.tables.now
  looked_at =
      let tables = c.args.tables.now in
      c.verifying_law.ensures.table (cost_in tables) (last_place tables) tables.penalty tables.len tables.least.now tables.back.now tables.pruned.now tables.merges tables.low

  right : IsLookedAt c.args.tables.now → AreRight c.args.tables.now
  right =
      let tables = c.args.tables.now in
      c.verifying_law.ensures.verified (cost_in tables) (last_place tables) tables.penalty tables.len tables.least.now tables.back.now tables.pruned.now tables.merges tables.low tables.is_length.0

pub returns-then-not-is_first : goal.returns-then-not-is_first
returns-then-not-is_first c =
    let b_fits : FitsSigned w128 c.args.tables.now.penalty = omega (arith, ints, c.args.tables.now.low, c.args.tables.now.high) in
    let fits : FitsSigned w128 (total_at c.args.tables.now 0) = search rules in
    let first = simp to_z-of_z at c.is_first.ensures.1 in
    (λ e. absurd (not_both false refl e), λ h. absurd (not_both c.is_first.result c.if-not-is_first.true (first h.tables.least_at_none)))

pub returns-then-not-rows_hold : goal.returns-then-not-rows_hold
returns-then-not-rows_hold c =
    let k = (goal.at.returns-then-not-rows_hold c).After-verifying_law in (
      λ e. absurd (not_both false refl e),
      λ h. absurd (not_both c.rows_hold.result c.if-not-rows_hold.true (c.rows_hold.ensures.1 (rows-hold c.args.tables.now (looked_at k h)))),
    )

pub returns : goal.returns
returns c =
    let k = (goal.at.returns c).After-verifying_law in
    let b_fits : FitsSigned w128 c.args.tables.now.penalty = omega (arith, ints, c.args.tables.now.low, c.args.tables.now.high) in
    let fits : FitsSigned w128 (total_at c.args.tables.now 0) = search rules in
    let first = simp to_z-of_z at (c.is_first.ensures.0 c.if-not-is_first.false) in
    let rows = c.rows_hold.ensures.0 c.if-not-rows_hold.false in (
      λ is. right k (verified c.args.tables.now first (c.is_none.ensures.0 c.if-not-is_none.false) rows (c.places_hold.ensures.0 is)),
      λ h. c.places_hold.ensures.1 (places-hold c.args.tables.now (looked_at k h)),
    )
