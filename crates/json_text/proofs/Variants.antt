-- The tree of a value, by its variant.
use Rattle.std.proofs.Common.{◌≡◌, ℕ, Bool, List, ap, sym, ◌∙◌}
use Rattle.json_text.specs.Tree.{Tree, null, boolean, number, text, list, object, Items, Members}
use Rattle.json_text.specs.View.{tree_of, items_view, members_view, value_step, list_step, members_step, member_step}
use Rattle.json_text.specs.declared.tree.Json as variant
use Rattle.json_text.specs.declared.tree.Json.TheVariants.{rolls-Null, rolls-Bool, rolls-Number, rolls-Text, rolls-List, rolls-Object}
use Rattle.json_text.specs.declared.tree.{Json.TheFolds.fold-roll-Json, Json.TheOpen.Json-F, JsonList.JsonList, JsonMembers.JsonMembers}

pub tree_of-list : (items : JsonList) → tree_of (variant.List items) ≡ list (items_view items)
tree_of-list items = ap tree_of (sym (rolls-List items)) ∙ fold-roll-Json Tree Items Members (List ℕ × Tree) value_step list_step members_step member_step (Json-F.List items)

pub tree_of-object : (members : JsonMembers) → tree_of (variant.Object members) ≡ object (members_view members)
tree_of-object members = ap tree_of (sym (rolls-Object members)) ∙ fold-roll-Json Tree Items Members (List ℕ × Tree) value_step list_step members_step member_step (Json-F.Object members)

pub tree_of-null : tree_of variant.Null ≡ null
tree_of-null = ap tree_of (sym rolls-Null) ∙ fold-roll-Json Tree Items Members (List ℕ × Tree) value_step list_step members_step member_step Json-F.Null

pub tree_of-boolean : (truth : Bool) → tree_of (variant.Bool truth) ≡ boolean truth
tree_of-boolean truth = ap tree_of (sym (rolls-Bool truth)) ∙ fold-roll-Json Tree Items Members (List ℕ × Tree) value_step list_step members_step member_step (Json-F.Bool truth)

pub tree_of-number : (spelling : List ℕ) → tree_of (variant.Number spelling) ≡ number spelling
tree_of-number spelling = ap tree_of (sym (rolls-Number spelling)) ∙ fold-roll-Json Tree Items Members (List ℕ × Tree) value_step list_step members_step member_step (Json-F.Number spelling)

pub tree_of-text : (spelled : List ℕ) → tree_of (variant.Text spelled) ≡ text spelled
tree_of-text spelled = ap tree_of (sym (rolls-Text spelled)) ∙ fold-roll-Json Tree Items Members (List ℕ × Tree) value_step list_step members_step member_step (Json-F.Text spelled)
