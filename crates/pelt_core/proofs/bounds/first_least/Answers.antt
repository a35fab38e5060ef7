use Rattle.std.{proofs.Common.{◌<◌, inl, inr, length, FitsSigned, refl, arith}, specs.Int.w128, proofs.lemmas.Int.to_z-of_z, proofs.lemmas.Bool.cases_eq}
use Rattle.segment_model.specs.{Cuts.Merges, Values.cost_between}
use Rattle.pelt_core.{specs.Bounds.AreInRange, proofs.Blocks.{apart-moves, bounds-by}, proofs.bounds.first_least.Goals.After-value_costs_law}
use Rattle.pelt_core.proofs.bounds.first_least.Goals as goal

module _ (g : _) (c : After-value_costs_law g) where
  merges : Merges (cost_between g.C.Cost.cost_of (g.C.Cost.positions c.args.cost.now)) (length (g.C.Cost.positions c.args.cost.now))
  merges = c.value_costs_law.ensures.merge g.C.Cost.cost_of g.met.C.Cost.merging (g.C.Cost.positions c.args.cost.now) (length (g.C.Cost.positions c.args.cost.now))

  range : AreInRange (cost_between g.C.Cost.cost_of (g.C.Cost.positions c.args.cost.now)) (length (g.C.Cost.positions c.args.cost.now))
  range = c.value_costs_law.ensures.in_range g.C.Cost.cost_of g.met.C.Cost.in_range (g.C.Cost.positions c.args.cost.now) c.requires.candidates.totals.limits

pub returns-clause-bounds : goal.returns-clause-bounds
returns-clause-bounds g c =
    let k = (goal.at.returns-clause-bounds g c).After-value_costs_law in
    let made = c.last_total.ensures in
    let fits : FitsSigned w128 c.last_total.result = record { sfits = c.last_total.type_inv } in
    let block_in : c.block_of.result < length c.loop-k.bounds = omega (arith, c.block_of.ensures.start, c.requires.some, c.loop-k.invariant.0.enough) in
    elim (cases_eq c.loop-k.best.index c.args.guess) [
      | inl same ↦
          bounds-by (cost_between g.C.Cost.cost_of (g.C.Cost.positions c.args.cost.now)) (length (g.C.Cost.positions c.args.cost.now)) c.args.least.now _ c.args.candidates.now _ c.args.guess _ c.loop-k.bounds _
          refl refl same (c.release.ensures.same same) c.loop-k.invariant.0
      | inr apart ↦
          let lowered = rw c.len-2.ensures at (simp to_z-of_z at (c.release.ensures.lowered apart)) in
          apart-moves (cost_between g.C.Cost.cost_of (g.C.Cost.positions c.args.cost.now)) c.args.least.now (length (g.C.Cost.positions c.args.cost.now)) (merges g k) (range g k) c.args.candidates.now c.requires.candidates.below
          c.args.guess c.block_of.result c.last_total.result c.loop-k.bounds c.release.new.bounds c.loop-k.invariant.0 c.block_of.ensures.start c.block_of.ensures.end block_in made.low made.high (rw c.from.ensures at made.total)
          c.release.auto.bounds lowered c.release.ensures.others c.loop-k.best.index
    ]

pub look_at_block-best-requires-clause-few : goal.look_at_block-best-requires-clause-few
look_at_block-best-requires-clause-few g c = omega (arith, c.loop-k-test.true, c.blocks_of-k-end.ensures.needed 65 (omega (arith, c.requires.few)))

pub look_at_block-best-requires-clause-block : goal.look_at_block-best-requires-clause-block
look_at_block-best-requires-clause-block g c = omega (arith, c.loop-k-test.true, c.blocks_of-k-end.ensures.needed (length c.loop-k.bounds) c.loop-k.invariant.0.enough)
