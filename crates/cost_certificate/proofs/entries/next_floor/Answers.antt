use Rattle.std.{proofs.Common.{◌≡◌, ℕ, Bool, true, false, ◌⊎◌, ◌<◌, ◌≤◌, inl, inr, ◌+ℤ◌, ◌≤ℤ◌, FitsSigned, rules, arith}, specs.Int.w128}
use Rattle.std.proofs.lemmas.{Bool.cases_lt, Int.{by_lt_z, ints, to_z-of_z}}
use Rattle.cost_certificate.{specs.Checks.total_at, proofs.Floors.{next-floor, floor-here, unlooked}, proofs.Bools.not_both}
use Rattle.cost_certificate.proofs.entries.next_floor.Goals as goal

-- where the test said no, the last cut settles the place
from-reach : (b : Bool) (s reach : ℕ) {X : Type 0} → b ≡ false → ((s < reach) ⊎ X → b ≡ true) → reach ≤ s
from-reach b s reach no' told = elim (cases_lt s reach) [
  | inl lt ↦ absurd (not_both b no' (told (inl lt)))
  | inr ge ↦ ge
]

pub returns-then-is_place-clause-none : goal.returns-then-is_place-clause-none
returns-then-is_place-clause-none c pair =
    let from = from-reach c.needs_look.result c.args.s c.reach_of.result c.if-not-needs_look.true c.needs_look.ensures.1 in
    let at = c.is_place.ensures.0 c.if-is_place.true in
    (pair.1 (inr (omega (arith, at)))).1 (c.reach_of.ensures c.args.s from (omega (arith, c.requires.below, c.requires.placed, c.args.tables.now.few))) at

pub returns-clause-holds : goal.returns-clause-holds
returns-clause-holds c = c.pair_holds.ensures.0 c.if-not-pair_holds.false

pub returns-then-not-needs_look-clause-holds : goal.returns-then-not-needs_look-clause-holds
returns-then-not-needs_look-clause-holds c =
    let b_fits : FitsSigned w128 c.args.tables.now.penalty = omega (arith, ints, c.args.tables.now.low, c.args.tables.now.high) in
    let floor_fits : FitsSigned w128 c.args.floor = c.ranges.floor in
    let total_fits : FitsSigned w128 (total_at c.args.tables.now c.args.t) = search rules in
    let told = simp to_z-of_z at c.needs_look.ensures in
    let from : c.reach_of.result ≤ c.args.s = elim (cases_lt c.args.s c.reach_of.result) [
      | inl lt ↦ absurd (not_both c.needs_look.result c.if-not-needs_look.true (told.1 (inl lt)))
      | inr ge ↦ ge
    ] in
    let above : total_at c.args.tables.now c.args.t ≤ℤ (c.args.floor +ℤ c.args.tables.now.penalty) =
    by_lt_z (c.args.floor +ℤ c.args.tables.now.penalty) (total_at c.args.tables.now c.args.t)
    (λ lt. absurd (not_both c.needs_look.result c.if-not-needs_look.true (told.1 (inr lt)))) (λ ge. ge) in
    unlooked c.args.tables.now c.args.s c.args.t c.args.floor c.requires.floor c.requires.placed (c.reach_of.ensures c.args.s from (omega (arith, c.requires.below, c.requires.placed, c.args.tables.now.few))) above
    (λ at. not_both c.is_place.result c.if-is_place.false (c.is_place.ensures.1 at))

pub returns-then-not-needs_look-clause-floor : goal.returns-then-not-needs_look-clause-floor
returns-then-not-needs_look-clause-floor c =
    simp (to_z-of_z w128 c.args.floor c.ranges.floor)
    (next-floor c.args.tables.now c.args.s c.args.t c.args.floor c.requires.floor)

pub returns-clause-floor : goal.returns-clause-floor
returns-clause-floor c =
    let made = c.made_from-made.ensures in
    let fits : FitsSigned w128 c.made_from-made.result = record { sfits = c.made_from-made.type_inv } in
    simp (to_z-of_z w128 c.made_from-made.result fits)
    (floor-here c.args.tables.now c.args.s c.args.t c.made_from-made.result c.requires.below made.total made.low made.high)
