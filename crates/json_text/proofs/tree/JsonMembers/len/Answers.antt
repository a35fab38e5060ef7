use Rattle.std.proofs.Common.{◌∙◌, sym, ap}
use Rattle.json_text.{specs.Parts.member_count, specs.declared.tree.JsonMembers.out-JsonMembers, proofs.Views.members_view-opened}
use Rattle.json_text.proofs.Parts.{members_listed, counted}
use Rattle.json_text.proofs.tree.JsonMembers.len.Goals as goal

pub returns : goal.returns
returns c =
    let held = (out-JsonMembers c.args.self.now).members in
    c.len.ensures ∙ held.ok.0 ∙ sym (ap member_count (members_view-opened c.args.self.now) ∙ counted members_listed held.items)
