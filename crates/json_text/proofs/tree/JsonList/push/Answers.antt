use Rattle.std.proofs.{Common.arith, lemmas.Grind.common_steps}
use Rattle.json_text.proofs.{Views.{items_view-made, items_view-opened}, Parts.{items_listed, added}}
use Rattle.json_text.proofs.tree.JsonList.push.Goals as goal

pub returns-clause-ok : goal.returns-clause-ok
returns-clause-ok c = grind (arith, common_steps, added, items_listed, items_view-opened, items_view-made)
