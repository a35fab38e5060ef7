use Rattle.std.{proofs.Common.{List, subst}, specs.Int.w128, proofs.lemmas.Int.to_z-of_z}
use Rattle.segment_model.specs.Segments.{Position}
use Rattle.segment_cost.specs.Certificate.{StandsFor}
use Rattle.history_model.specs.declared.setting.Setting.{Setting}
use Rattle.journal_walk.proofs.Making.{fits}
use Rattle.journal_walk.proofs.made.best_cuts.Goals as goal

pub returns : goal.returns
returns c =
    let x : Setting = c.args.now.now.setting in
    let made : StandsFor c.in_ok-share.field-0 x.penalty x.length c.in_ok-made.made.done.cert = simp (to_z-of_z w128 x.penalty (fits x c.args.now.now.fits)) at c.in_ok-made.ensures.stands in
    (c.in_ok-made.made.done.cert, subst (λ (ps : List Position). StandsFor ps x.penalty x.length c.in_ok-made.made.done.cert) c.in_ok-share.ensures made, c.len.ensures)
