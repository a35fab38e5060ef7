use Rattle.std.proofs.Common.{◌∙◌, map, sym, ap}
use Rattle.json_text.{specs.View.{items_of, tree_of}, proofs.Views.items_view-opened, proofs.Parts.{items_listed, got}}
use Rattle.json_text.proofs.tree.JsonList.get.Goals as goal

pub returns : goal.returns
returns c =
    got items_listed _ _ c.args.place c.get.result (items_view-opened c.args.self.now ∙ ap (λ xs. items_of (map tree_of xs)) (sym c.deref.ensures.value)) c.get.ensures.lookup.3 c.get.ensures.lookup.1
