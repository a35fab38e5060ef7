use Rattle.std.proofs.{Common.arith, lemmas.Grind.common_steps}
use Rattle.json_text.proofs.{Views.{members_view-made, members_view-opened}, Parts.{members_listed, added}}
use Rattle.json_text.proofs.tree.JsonMembers.push.Goals as goal

pub returns-clause-ok : goal.returns-clause-ok
returns-clause-ok c = grind (arith, common_steps, added, members_listed, members_view-opened, members_view-made)
