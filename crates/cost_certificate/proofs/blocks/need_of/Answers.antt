use Rattle.std.{proofs.Common.{◌^◌, pos, neg_ℤ, ◌-ℤ◌, ◌≤ℤ◌, FitsSigned, arith}, specs.Int.w128, proofs.lemmas.Int.{ints, to_z-of_z}}
use Rattle.cost_certificate.{specs.Checks.total_at, proofs.Needs.{next-need, whole-need}, proofs.blocks.need_of.Goals.After-cost}
use Rattle.cost_certificate.proofs.blocks.need_of.Goals as goal

module _ (c : After-cost) where
  cost_range : (pos 0 ≤ℤ c.cost.result) × (c.cost.result ≤ℤ pos (10 ^ 37))
  cost_range =
      rw c.cost.ensures (c.args.tables.now.costs c.args.from c.loop-t.t (omega (arith, c.loop-t.auto.t)) (omega (arith, c.loop-t-test.true, c.requires.placed)))

  total_range : (neg_ℤ (pos (10 ^ 36)) ≤ℤ total_at c.args.tables.now c.loop-t.t) × (total_at c.args.tables.now c.loop-t.t ≤ℤ pos (10 ^ 37))
  total_range = c.args.tables.now.totals c.loop-t.t (omega (arith, c.loop-t-test.true, c.requires.placed, c.args.tables.now.least_length))

pub overflow_sub-tables : goal.overflow_sub-tables
overflow_sub-tables c =
    let k = (goal.at.overflow_sub-tables c).After-cost in
    let cost = cost_range k in
    let total = total_range k in
    let total_fits : FitsSigned w128 (total_at c.args.tables.now c.loop-t.t) = omega (arith, ints, total.0, total.1) in
    let cost_fits : FitsSigned w128 c.cost.result = record { sfits = c.cost.type_inv } in
    simp to_z-of_z (omega (arith, ints, total.0, total.1, cost.0, cost.1))

pub loop-t-preserved : goal.loop-t-preserved
loop-t-preserved c =
    let k = (goal.at.loop-t-preserved c).After-cost in
    let cost = cost_range k in
    let total = total_range k in
    let total_fits : FitsSigned w128 (total_at c.args.tables.now c.loop-t.t) = omega (arith, ints, total.0, total.1) in
    let cost_fits : FitsSigned w128 c.cost.result = record { sfits = c.cost.type_inv } in
    let less_fits : FitsSigned w128 (total_at c.args.tables.now c.loop-t.t -ℤ c.cost.result) = omega (arith, ints, total.0, total.1, cost.0, cost.1) in
    let more = simp to_z-of_z at c.need_with-need.ensures.total in
    let cuts = c.need_with-need.ensures.reach in
    next-need c.args.tables.now c.args.from c.loop-t.need c.need_with-need.result c.loop-t.t (total_at c.args.tables.now c.loop-t.t -ℤ c.cost.result) c.loop-t.invariant
    (omega (arith, c.loop-t.auto.t)) (omega (arith, ints, c.cost.ensures)) (omega (arith, ints, total.0, cost.1)) (omega (arith, ints, total.1, cost.0)) more.0 more.1 more.2 cuts.0
    (λ s from le. c.reach_of.ensures s (omega (arith, from, cuts.1)) (omega (arith, le, c.args.tables.now.few)))

pub returns : goal.returns
returns c = whole-need c.args.tables.now c.args.from c.loop-t.need c.loop-t.t c.args.end c.loop-t.invariant (omega (arith, c.loop-t-test.false))
