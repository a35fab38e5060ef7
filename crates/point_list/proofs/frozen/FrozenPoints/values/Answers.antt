use Rattle.std.proofs.Common.{◌∙◌, List, get_or, sym, ap}
use Rattle.segment_model.{specs.Segments.{Position, position_values}, proofs.Segments.one-position}
use Rattle.point_list.proofs.frozen.FrozenPoints.values.Goals as goal

pub returns : goal.returns
returns c =
    let p : Position = c.at-position.result.now in
    c.values.ensures
    ∙ ap position_values (c.at-position.ensures p)
    ∙ ap (λ (ps : List Position). position_values (get_or ps c.args.i p)) (c.deref.ensures ∙ c.self.view_is)
    ∙ sym (one-position c.args.self.now c.args.i p c.requires)
