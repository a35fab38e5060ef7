use Rattle.std.{proofs.Common.{◌+◌, ◌*◌, length, FitsSigned, arith}, specs.Int.w128, proofs.lemmas.Int.{ints, to_z-of_z}}
use Rattle.segment_model.specs.{Cuts.Merges, Values.cost_between}
use Rattle.pelt_core.{specs.Bounds.{AreInRange, bound_at, IsFirst, IsBelowBlock}, proofs.Blocks.{passed-over, looked-at, moved-on}}
use Rattle.pelt_core.proofs.bounds.look_at_block.Goals as goal
use Rattle.pelt_core.proofs.bounds.look_at_block.Goals.{After-value_costs_law}

module _ (g : _) (c : After-value_costs_law g) where
  merges : Merges (cost_between g.C.Cost.cost_of (g.C.Cost.positions c.args.cost.now)) (length (g.C.Cost.positions c.args.cost.now))
  merges = c.value_costs_law.ensures.merge g.C.Cost.cost_of g.met.C.Cost.merging (g.C.Cost.positions c.args.cost.now) (length (g.C.Cost.positions c.args.cost.now))

  range : AreInRange (cost_between g.C.Cost.cost_of (g.C.Cost.positions c.args.cost.now)) (length (g.C.Cost.positions c.args.cost.now))
  range = c.value_costs_law.ensures.in_range g.C.Cost.cost_of g.met.C.Cost.in_range (g.C.Cost.positions c.args.cost.now) c.requires.candidates.totals.limits

  -- no candidate of the block is better
  passed : IsBelowBlock (cost_between g.C.Cost.cost_of (g.C.Cost.positions c.args.cost.now)) (length (g.C.Cost.positions c.args.cost.now)) (bound_at c.args.bounds.now c.args.k) (c.args.k * 256) c.args.best
      → IsFirst (cost_between g.C.Cost.cost_of (g.C.Cost.positions c.args.cost.now)) c.args.least.now (length (g.C.Cost.positions c.args.cost.now)) c.args.candidates.now c.args.guess (256 * c.args.k + 256) c.args.best
  passed behind =
      passed-over (cost_between g.C.Cost.cost_of (g.C.Cost.positions c.args.cost.now)) c.args.least.now (length (g.C.Cost.positions c.args.cost.now)) merges range c.args.candidates.now c.requires.candidates.below
      c.args.guess c.args.k c.args.bounds.now c.args.best c.requires.bounds c.requires.block c.requires.found (λ x i from above more. behind x i (omega (arith, from)) above more)

pub returns-else-moves-clause-found : goal.returns-else-moves-clause-found
returns-else-moves-clause-found g c = passed g (goal.at.returns-else-moves-clause-found g c).After-value_costs_law (c.is_behind.ensures.behind c.if-is_behind.true)

pub returns-then-moves-clause-found : goal.returns-then-moves-clause-found
returns-then-moves-clause-found g c = passed g (goal.at.returns-then-moves-clause-found g c).After-value_costs_law (c.is_behind.ensures.behind c.if-is_behind.true)

pub returns-then-moves-clause-bounds : goal.returns-then-moves-clause-bounds
returns-then-moves-clause-bounds g c =
    let k = (goal.at.returns-then-moves-clause-bounds g c).After-value_costs_law in
    moved-on (cost_between g.C.Cost.cost_of (g.C.Cost.positions c.args.cost.now)) c.args.least.now (length (g.C.Cost.positions c.args.cost.now)) (merges g k) (range g k) c.args.candidates.now c.requires.candidates.below
    c.args.guess c.args.k c.moved.result c.args.bounds.now c.requires.bounds c.requires.block c.moved.ensures.moved

pub returns-clause-bounds : goal.returns-clause-bounds
returns-clause-bounds g c =
    let k = (goal.at.returns-clause-bounds g c).After-value_costs_law in
    let low = c.best_of_block-looked.ensures.low in
    let high = c.best_of_block-looked.ensures.high in
    let fits : FitsSigned w128 c.best_of_block-looked.result.low = omega (arith, ints, low, high) in
    simp to_z-of_z (rw c.len.ensures (looked-at (cost_between g.C.Cost.cost_of (g.C.Cost.positions c.args.cost.now)) c.args.least.now (length (g.C.Cost.positions c.args.cost.now)) (merges g k) (range g k) c.args.candidates.now c.requires.candidates.below
    c.args.guess c.args.k c.best_of_block-looked.result.low c.args.bounds.now c.requires.bounds c.requires.block low high c.best_of_block-looked.ensures.at_most))
