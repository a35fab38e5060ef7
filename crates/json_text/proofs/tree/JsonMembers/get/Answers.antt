use Rattle.std.proofs.Common.{◌∙◌, map, sym, ap}
use Rattle.json_text.{specs.View.{members_of, entry_of}, proofs.Views.members_view-opened, proofs.Parts.{members_listed, got}}
use Rattle.json_text.proofs.tree.JsonMembers.get.Goals as goal

pub returns : goal.returns
returns c =
    got members_listed _ _ c.args.place c.get.result (members_view-opened c.args.self.now ∙ ap (λ xs. members_of (map entry_of xs)) (sym c.deref.ensures.value)) c.get.ensures.lookup.3 c.get.ensures.lookup.1
