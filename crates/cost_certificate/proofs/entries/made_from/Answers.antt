use Rattle.std.proofs.{Common.{◌^◌, pos, neg_ℤ, ◌≤ℤ◌, arith}, lemmas.Int.ints}
use Rattle.cost_certificate.{specs.Checks.total_at, proofs.entries.made_from.Goals.After-cost}
use Rattle.cost_certificate.proofs.entries.made_from.Goals as goal

module _ (c : After-cost) where
  cost_range : (pos 0 ≤ℤ c.cost.result) × (c.cost.result ≤ℤ pos (10 ^ 37))
  cost_range = rw c.cost.ensures (c.args.tables.now.costs c.args.s c.args.t (omega (arith, c.requires.below)) c.requires.placed)

  least_range : (neg_ℤ (pos (10 ^ 36)) ≤ℤ total_at c.args.tables.now c.args.s) × (total_at c.args.tables.now c.args.s ≤ℤ pos (10 ^ 37))
  least_range = c.args.tables.now.totals c.args.s (omega (arith, c.requires.below, c.requires.placed, c.args.tables.now.least_length))

pub overflow_add-result : goal.overflow_add-result
overflow_add-result c =
    let cost = cost_range c in
    let total = least_range c in
    omega (arith, ints, cost.0, cost.1, total.0, total.1)

pub returns : goal.returns
returns c =
    let cost = cost_range c in
    let total = least_range c in
    record {
      total = omega (arith, ints, cost.0, cost.1, total.0, total.1, c.cost.ensures);
      low = omega (arith, ints, cost.0, cost.1, total.0, total.1);
      high = omega (arith, ints, cost.0, cost.1, total.0, total.1);
    }
