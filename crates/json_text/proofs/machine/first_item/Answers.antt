use Rattle.std.proofs.{Common.{get_or, arith}, lemmas.Grind.common_steps}
use Rattle.json_text.specs.Machine.{first_item}
use Rattle.json_text.proofs.{Reach.{list_ends, closed_arrives, item_alike}, Runs.stands_alike, Stack.frames_end, Variants.tree_of-list}
use Rattle.json_text.proofs.machine.first_item.Goals as goal

pub returns-then-as_bytes-place-eq93-clause-arrives : goal.returns-then-as_bytes-place-eq93-clause-arrives
returns-then-as_bytes-place-eq93-clause-arrives c = grind (arith, common_steps, closed_arrives, tree_of-list, list_ends)

pub begin-requires-clause-stands : goal.begin-requires-clause-stands
begin-requires-clause-stands c = grind (arith, common_steps, get_or, frames_end, stands_alike, first_item, item_alike)
