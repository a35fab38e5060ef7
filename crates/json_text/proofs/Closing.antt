-- A closing bracket behind a value.
use Rattle.std.proofs.{Common.{◌≡◌, ℕ, List, ◌∷◌, Some, arith}, lemmas.Grind.common_steps}
use Rattle.json_text.specs.{Tree.Tree, Machine.{Frame, in_list, in_member, ended, close}, Parts.{then_item, then_member}}
use Rattle.json_text.specs.{View.{tree_of, items_view, members_view}, declared.tree.JsonList.JsonList, declared.tree.JsonMembers.JsonMembers}
use Rattle.json_text.specs.declared.tree.Json as json
use Rattle.json_text.proofs.Variants.{tree_of-list, tree_of-object}

pub list_closed : (b : ℕ) (tree : Tree) (frames outer : List Frame) (before after : JsonList) → frames ≡ in_list (items_view before) ∷ outer → b ≡ 93
    → items_view after ≡ then_item (items_view before) tree → close b tree frames ≡ Some (ended (tree_of (json.List after)), outer)
list_closed b tree frames outer before after e is all = grind (arith, common_steps, tree_of-list)

pub object_closed : (b : ℕ) (tree : Tree) (frames outer : List Frame) (before after : JsonMembers) (key : List ℕ) → frames ≡ in_member (members_view before) key ∷ outer → b ≡ 125
    → members_view after ≡ then_member (members_view before) (key, tree) → close b tree frames ≡ Some (ended (tree_of (json.Object after)), outer)
object_closed b tree frames outer before after key e is all = grind (arith, common_steps, tree_of-object)
