-- The lists of a tree, as their vectors hold them.
use Rattle.std.proofs.Common.{◌≡◌, ℕ, List, [], ◌∷◌, ◌++◌, refl, ap, map}
use Rattle.json_text.specs.{Tree.{Tree, Items, item, Members, member}, Parts.{then_item, then_member}}
use Rattle.json_text.specs.View.{items_of, members_of, tree_of, entry_of, items_view, members_view, value_step, list_step, member_step, members_step}
use Rattle.json_text.specs.declared.tree.Json.{Json, TheFolds.{fold-roll-JsonList, fold_out-JsonList, fold-roll-JsonMembers, fold_out-JsonMembers}}
use Rattle.json_text.specs.declared.tree.{Json.TheOpen.{JsonList-F, JsonMembers-F}, JsonList.{JsonList, roll-JsonList, out-JsonList}, Member.Member}
use Rattle.json_text.specs.declared.tree.JsonMembers.{JsonMembers, roll-JsonMembers, out-JsonMembers}

-- an item at the end
pub items_of-end : (trees : List Tree) (last : Tree) → items_of (trees ++ last ∷ []) ≡ then_item (items_of trees) last
items_of-end [] last = refl
items_of-end (tree ∷ trees) last = ap (item tree) (items_of-end trees last)

-- a member at the end
pub members_of-end : (entries : List (List ℕ × Tree)) (last : List ℕ × Tree) → members_of (entries ++ last ∷ []) ≡ then_member (members_of entries) last
members_of-end [] last = refl
members_of-end (entry ∷ entries) last = ap (member entry.0 entry.1) (members_of-end entries last)

pub map-end : {A B : Type 0} (f : A → B) (xs : List A) (x : A) → map f (xs ++ x ∷ []) ≡ map f xs ++ f x ∷ []
map-end f [] x = refl
map-end f (y ∷ ys) x = ap (λ zs. f y ∷ zs) (map-end f ys x)

-- what a list holds, made of a vector and opened to one
pub items_view-made : (level : JsonList-F Json JsonList JsonMembers Member) → items_view (roll-JsonList level) ≡ items_of (map tree_of level.items.items)
items_view-made level = fold-roll-JsonList Tree Items Members (List ℕ × Tree) value_step list_step members_step member_step level

pub items_view-opened : (made : JsonList) → items_view made ≡ items_of (map tree_of (out-JsonList made).items.items)
items_view-opened made = fold_out-JsonList Tree Items Members (List ℕ × Tree) value_step list_step members_step member_step made

pub members_view-made : (level : JsonMembers-F Json JsonList JsonMembers Member) → members_view (roll-JsonMembers level) ≡ members_of (map entry_of level.members.items)
members_view-made level = fold-roll-JsonMembers Tree Items Members (List ℕ × Tree) value_step list_step members_step member_step level

pub members_view-opened : (members : JsonMembers) → members_view members ≡ members_of (map entry_of (out-JsonMembers members).members.items)
members_view-opened members = fold_out-JsonMembers Tree Items Members (List ℕ × Tree) value_step list_step members_step member_step members
