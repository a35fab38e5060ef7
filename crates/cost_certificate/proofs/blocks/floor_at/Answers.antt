use Rattle.std.proofs.{Common.{◌^◌, pos, ◌≤ℤ◌, arith}, lemmas.Int.ints}
use Rattle.cost_certificate.proofs.blocks.floor_at.Goals as goal
use Rattle.cost_certificate.proofs.blocks.floor_at.Goals.{After-cost}

cost_range : (c : After-cost) → (pos 0 ≤ℤ c.cost.result) × (c.cost.result ≤ℤ pos (10 ^ 37))
cost_range c = rw c.cost.ensures (c.args.tables.now.costs c.args.watch.at c.args.from c.requires.before c.requires.placed)

pub returns-clause-low : goal.returns-clause-low
returns-clause-low c =
    let cost = cost_range (goal.at.returns-clause-low c).After-cost in
    omega (arith, ints, cost.0, cost.1, c.requires.low, c.requires.high)

pub returns-clause-high : goal.returns-clause-high
returns-clause-high c =
    let cost = cost_range (goal.at.returns-clause-high c).After-cost in
    omega (arith, ints, cost.0, cost.1, c.requires.low, c.requires.high)
