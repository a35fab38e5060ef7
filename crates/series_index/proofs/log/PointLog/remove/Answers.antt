use Rattle.std.proofs.Common.{◌∙◌, List, sym, ap, subst, arith}
use Rattle.segment_model.specs.{Segments.Position, Edits.removed}
use Rattle.point_list.proofs.Places.{to-rises}
use Rattle.series_index.{specs.declared.coming.Coming.Coming, specs.Log.{all_placed, MayBePlaced}, proofs.Placing.{removed-all, may-fewer}}
use Rattle.series_index.proofs.log.PointLog.remove.Goals as goal

pub invariant_of-self : goal.invariant_of-self
invariant_of-self c =
    let P : List Position → Type 0 = λ ps. MayBePlaced c.drop_step.new.coming.items ps in
    subst P (sym c.remove.ensures)
    (may-fewer c.args.commit c.args.step c.place_all.new.coming.items c.drop_step.new.coming.items c.place_all.new.placed c.place_all.ensures.may c.limits.ensures c.drop_step.ensures)

pub returns : goal.returns
returns c =
    let coming : List Coming = c.place_all.new.coming.items in
    ap (λ ps. all_placed c.drop_step.new.coming.items ps) c.remove.ensures
    ∙ ap (λ xs. all_placed xs (removed c.args.commit c.args.step c.place_all.new.placed)) c.drop_step.ensures
    ∙ sym (removed-all c.args.commit c.args.step coming c.place_all.new.placed (to-rises 0 c.place_all.new.placed c.limits.ensures.rising (λ some. omega arith)))
    ∙ ap (removed c.args.commit c.args.step) (c.place_all.ensures.same ∙ c.self.view_is)
