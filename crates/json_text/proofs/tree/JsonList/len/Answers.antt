use Rattle.std.proofs.Common.{◌∙◌, sym, ap}
use Rattle.json_text.{specs.Parts.item_count, specs.declared.tree.JsonList.out-JsonList, proofs.Views.items_view-opened, proofs.Parts.{items_listed, counted}}
use Rattle.json_text.proofs.tree.JsonList.len.Goals as goal

pub returns : goal.returns
returns c =
    let held = (out-JsonList c.args.self.now).items in
    c.len.ensures ∙ held.ok.0 ∙ sym (ap item_count (items_view-opened c.args.self.now) ∙ counted items_listed held.items)
