use Rattle.std.proofs.lemmas.Grind.{common_steps}
use Rattle.std.{proofs.Common.{ℕ, ℤ, ◌-◌, List, refl, sym, ap₂, ◌∙◌, subst, arith}, specs.Int.w128, proofs.lemmas.Int.to_z-of_z}
use Rattle.segment_model.specs.Segments.{Position}
use Rattle.segment_cost.specs.Certificate.{StandsFor}
use Rattle.checkpoint_redo.proofs.Fronts.{common-within}
use Rattle.history_model.specs.declared.setting.Setting.{Setting}
use Rattle.track_step.specs.TrackSeriesBegun.{Begins}
use Rattle.journal_walk.proofs.Making.{fits}
use Rattle.journal_walk.proofs.made.segmented.Goals as goal

pub overflow_sub-redone : goal.overflow_sub-redone
overflow_sub-redone c = grind (arith, common_steps, common-within)

pub invariant_of-snapshot-clause-begins : goal.invariant_of-snapshot-clause-begins
invariant_of-snapshot-clause-begins c =
    let x : Setting = c.args.then.now.setting in
    subst (λ (z : ℤ). ∥ Begins 0 c.in_ok-start.start.points z x.length c.in_ok-start.start.table ∥₁) (sym (to_z-of_z w128 x.penalty (fits x c.args.then.now.fits)))
    (subst (λ (y : Setting). ∥ Begins 0 c.in_ok-start.start.points y.penalty y.length c.in_ok-start.start.table ∥₁) c.in_ok-start.ensures c.in_ok-start.start.begins)

pub returns : goal.returns
returns c =
    let x : Setting = c.args.then.now.setting in
    let made : StandsFor c.in_ok-share.field-0 x.penalty x.length c.in_ok-done.field-0.done.cert = simp (to_z-of_z w128 x.penalty (fits x c.args.then.now.fits)) at c.in_ok-done.ensures.stands in
    record {
      test = c.in_ok-done.ensures.test ∙ c.in_ok-copy.ensures;
      metric = c.in_ok-done.ensures.metric ∙ c.in_ok-copy-2.ensures;
      version = c.in_ok-done.ensures.version;
      base = refl;
      redone = ap₂ (λ (a b : ℕ). a - b) c.len.ensures c.common_prefix.ensures;
      points = c.in_ok-done.ensures.points ∙ c.in_ok-share.ensures;
      stands = subst (λ (ps : List Position). StandsFor ps x.penalty x.length c.in_ok-done.field-0.done.cert) c.in_ok-share.ensures made;
      tabled = c.in_ok-done.ensures.tabled;
    }
