use Rattle.std.proofs.{Common.{◌≡◌, ℕ, ◌<◌, ◌≤◌, ◌+◌, length, ◌⊎◌, arith}, lemmas.Grind.common_steps}
use Rattle.segment_model.specs.Values.{cost_between}
use Rattle.pelt_core.proofs.Marks.{one-looked, looked-as}
use Rattle.pelt_core.proofs.candidates.mark_between.Goals as goal

between-more : (from i s : ℕ) → (from ≤ s) × (s < i + 1) → ((from ≤ s) × (s < i)) ⊎ (s ≡ i)
between-more from i s is = grind (arith, common_steps)

pub loop-s-preserved : goal.loop-s-preserved
loop-s-preserved g c = (
  omega (arith, c.loop-s.invariant.0),
  λ len may.
      let lt : c.loop-s.s < length (g.C.Cost.positions c.args.cost.now) = omega (arith, c.loop-s-test.true, c.requires.inside) in
      one-looked (cost_between g.C.Cost.cost_of (g.C.Cost.positions c.args.cost.now)) len c.args.least.now (length (g.C.Cost.positions c.args.cost.now))
      (λ s. (c.args.from ≤ s) × (s < c.loop-s.s)) (λ s. (c.args.from ≤ s) × (s < c.loop-s.s + 1)) c.args.pruned.now c.loop-s.pruned c.mark-here.new.pruned c.loop-s.s (c.loop-s.invariant.1 len may)
      lt c.mark-here.auto.pruned (c.mark-here.ensures.marked len (may c.loop-s.s c.loop-s.invariant.0 c.loop-s-test.true)) c.mark-here.ensures.others
      (between-more c.args.from c.loop-s.s),
)

pub returns : goal.returns
returns g c len may =
    looked-as (cost_between g.C.Cost.cost_of (g.C.Cost.positions c.args.cost.now)) len c.args.least.now (length (g.C.Cost.positions c.args.cost.now)) (λ s. (c.args.from ≤ s) × (s < c.loop-s.s)) (λ s. (c.args.from ≤ s) × (s < c.args.to))
    c.args.pruned.now c.loop-s.pruned (c.loop-s.invariant.1 len may)
    (λ s is. (is.0, omega (arith, is.1, c.loop-s-test.false)))
