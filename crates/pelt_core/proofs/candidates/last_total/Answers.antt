use Rattle.std.proofs.{Common.{◌≡◌, ◌^◌, length, pos, neg_ℤ, ◌≤ℤ◌, arith}, lemmas.Int.ints, lemmas.Grind.common_steps}
use Rattle.segment_model.specs.{Values.cost_between, Tables.int_at}
use Rattle.pelt_core.proofs.candidates.last_total.Goals as goal
use Rattle.pelt_core.proofs.candidates.last_total.Goals.{After-cost}

-- the cost that the call gave, and the ranges of the two numbers
module _ (g : _) (c : After-cost g) where
  cost_is : c.cost.result ≡ cost_between g.C.Cost.cost_of (g.C.Cost.positions c.args.cost.now) c.args.s (length (g.C.Cost.positions c.args.cost.now))
  cost_is = rw c.len.ensures at c.cost.ensures

  cost_range : (pos 0 ≤ℤ c.cost.result) × (c.cost.result ≤ℤ pos (10 ^ 37))
  cost_range = grind (arith, common_steps, cost_is, length, c.value_costs_law.ensures.in_range, g.C.Cost.cost_of, g.met.C.Cost.in_range)

  least_range : (neg_ℤ (pos (10 ^ 36)) ≤ℤ int_at c.args.least.now c.args.s) × (int_at c.args.least.now c.args.s ≤ℤ pos (10 ^ 37))
  least_range = c.requires.totals.totals c.args.s (omega (arith, c.requires.below, c.requires.totals.lengths))

pub overflow_add-result : goal.overflow_add-result
overflow_add-result g c =
    let cost = cost_range g c in
    let total = least_range g c in
    omega (arith, ints, cost.0, cost.1, total.0, total.1)

pub returns : goal.returns
returns g c =
    let cost = cost_range g c in
    let total = least_range g c in
    record {
      total = omega (arith, ints, cost.0, cost.1, total.0, total.1, cost_is g c);
      low = omega (arith, ints, cost.0, cost.1, total.0, total.1);
      high = omega (arith, ints, cost.0, cost.1, total.0, total.1);
    }
