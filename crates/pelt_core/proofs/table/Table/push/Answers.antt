use Rattle.std.{proofs.Common.{◌≡◌, [], ◌∷◌, ◌++◌, ap, ◌∙◌, length, FitsSigned, arith}, specs.Int.w128, proofs.lemmas.Int.{ints, to_z-of_z}}
use Rattle.std.proofs.lemmas.List.{length-append}
use Rattle.segment_model.specs.Values.{AreWithinLimits}
use Rattle.pelt_core.{specs.Seen.Tabled, proofs.Tables.{table-same, before-push, after-push}, proofs.table.Table.push.Goals.After-push}
use Rattle.pelt_core.proofs.table.Table.push.Goals as goal

within : (g : _) (c : After-push g) → AreWithinLimits (g.C.Cost.positions c.self.inside.cost ++ c.args.values.now ∷ [])
within g c = rw (ap (λ (t : Tabled). t.positions) c.self.view_is) c.requires.limits

positions_are : (g : _) (c : After-push g) → g.C.Cost.positions c.push.new.self ≡ g.C.Cost.positions c.self.inside.cost ++ c.args.values.now ∷ []
positions_are g c = c.push.ensures.positions ∙ ap (λ ps. ps ++ c.args.values.now ∷ []) c.in_ok-reserve.ensures.positions

pub grow-requires : goal.grow-requires
grow-requires g c =
    let k = (goal.at.grow-requires g c).After-push in
    let fits : FitsSigned w128 c.self.inside.penalty = omega (arith, ints, c.self.invariant.low, c.self.invariant.high) in
    let size = ap length (positions_are g k) ∙ length-append (g.C.Cost.positions c.self.inside.cost) (c.args.values.now ∷ []) in
    rw (to_z-of_z w128 c.self.inside.penalty fits) (record {
      limits = rw (positions_are g k) (within g k);
      some = omega (arith, size);
      low = c.self.invariant.low;
      high = c.self.invariant.high;
      pruned =
          before-push g.C.Cost.cost_of g.met.C.Cost.merging g.met.C.Cost.in_range c.agreeing_costs_law.ensures.table c.value_costs_law.ensures.merge c.value_costs_law.ensures.in_range
          (g.C.Cost.positions c.self.inside.cost) c.self.inside.penalty c.self.inside.rows c.self.invariant c.values_law.ensures.front c.args.values.now (g.C.Cost.positions c.push.new.self)
          (positions_are g k) (within g k) c.reserve-2.new.self c.in_ok-reserve-2.ensures.same;
      room = c.in_ok-reserve-2.ensures.room;
    })

pub invariant_of-self-2 : goal.invariant_of-self-2
invariant_of-self-2 g c =
    let k = (goal.at.invariant_of-self-2 g c).After-push in
    let fits : FitsSigned w128 c.self.inside.penalty = omega (arith, ints, c.self.invariant.low, c.self.invariant.high) in
    after-push g.C.Cost.cost_of g.met.C.Cost.merging g.met.C.Cost.in_range c.agreeing_costs_law.ensures.table c.value_costs_law.ensures.merge c.value_costs_law.ensures.in_range
    (g.C.Cost.positions c.self.inside.cost) c.self.inside.penalty c.self.inside.rows c.self.invariant c.args.values.now (g.C.Cost.positions c.push.new.self)
    (positions_are g k) (within g k) c.grow.new.self (rw (to_z-of_z w128 c.self.inside.penalty fits) at c.grow.ensures.pruned)

pub invariant_of-self-in_err-reserve-2 : goal.invariant_of-self-in_err-reserve-2
invariant_of-self-in_err-reserve-2 g c =
    table-same g.C.Cost.cost_of (g.C.Cost.positions c.self.inside.cost) (g.C.Cost.positions c.reserve.new.self) c.self.inside.penalty c.self.inside.rows c.reserve-2.new.self
    c.in_ok-reserve.ensures.positions c.in_err-reserve-2.ensures.same c.self.invariant
