use Rattle.std.proofs.lemmas.Grind.{common_steps}
use Rattle.std.{proofs.Common.{◌≡◌, ◌^◌, length, pos, ◌≤ℤ◌, FitsSigned, arith}, specs.Int.w128, proofs.lemmas.Int.{ints, to_z-of_z}}
use Rattle.segment_model.specs.Values.{cost_between}
use Rattle.pelt_core.proofs.bounds.cost_from.Goals as goal
use Rattle.pelt_core.proofs.bounds.cost_from.Goals.{Joined-rise-at}

-- the cost, whether it was asked for or known, and its range
module _ (g : _) (c : Joined-rise-at g) where
  cost_is : c.if-rise-at.rise.cost ≡ cost_between g.C.Cost.cost_of (g.C.Cost.positions c.args.cost.now) c.args.at (length (g.C.Cost.positions c.args.cost.now))
  cost_is = grind (arith, common_steps)

  cost_range : (pos 0 ≤ℤ c.if-rise-at.rise.cost) × (c.if-rise-at.rise.cost ≤ℤ pos (10 ^ 37))
  cost_range = grind (arith, common_steps, cost_is, length)

  fits_rise : FitsSigned w128 c.if-rise-at.rise.cost
  fits_rise = omega (arith, ints, cost_range.0, cost_range.1)

pub returns-clause-low : goal.returns-clause-low
returns-clause-low g c = grind (arith, common_steps, goal.at.returns-clause-low, fits_rise, to_z-of_z, cost_range)
