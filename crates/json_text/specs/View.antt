-- The tree of a value that was read, without where it lies in memory.
use Rattle.std.specs.Prelude.{ℕ, List, [], ◌∷◌}
use Rattle.json_text.specs.Tree.{Tree, null, boolean, number, text, list, object, Items, no_items, item, Members, no_members, member}
use Rattle.json_text.specs.declared.tree.Json.{Json, fold-Json, TheFolds.{fold-JsonList, fold-JsonMembers, fold-Member}}
use Rattle.json_text.specs.declared.tree.{Json.TheOpen.{Json-F, JsonList-F, Member-F, JsonMembers-F}, JsonList.JsonList, JsonMembers.JsonMembers, Member.Member}

-- items in their order
abbrev pub items_of : List Tree → Items
items_of [] = no_items
items_of (tree ∷ trees) = item tree (items_of trees)

-- members in their order, each with its key and its value
abbrev pub members_of : List (List ℕ × Tree) → Members
members_of [] = no_members
members_of (entry ∷ entries) = member entry.0 entry.1 (members_of entries)

-- One level, with what is inside already seen as its tree. Each step below makes a tree of one level.
abbrev pub Level : (Type 0 → Type 0 → Type 0 → Type 0 → Type 0) → Type 0
Level F = F Tree Items Members (List ℕ × Tree)

-- the tree of a value
abbrev pub value_step : Level Json-F → Tree
value_step Json-F.Null = null
value_step (Json-F.Bool b) = boolean b
value_step (Json-F.Number spelling) = number spelling
value_step (Json-F.Text content) = text content
value_step (Json-F.List items) = list items
value_step (Json-F.Object members) = object members

-- the items of a list
abbrev pub list_step : Level JsonList-F → Items
list_step level = items_of level.items.items

-- the key and the value of a member
abbrev pub member_step : Level Member-F → List ℕ × Tree
member_step level = (level.key, level.value)

-- the members of an object
abbrev pub members_step : Level JsonMembers-F → Members
members_step level = members_of level.members.items

-- a value's tree
abbrev pub tree_of : Json → Tree
tree_of = fold-Json Tree Items Members (List ℕ × Tree) value_step list_step members_step member_step

-- the items of a list, as trees
abbrev pub items_view : JsonList → Items
items_view = fold-JsonList Tree Items Members (List ℕ × Tree) value_step list_step members_step member_step

-- the members of an object, each with its key and the tree of its value
abbrev pub members_view : JsonMembers → Members
members_view = fold-JsonMembers Tree Items Members (List ℕ × Tree) value_step list_step members_step member_step

-- a member's key and the tree of its value
abbrev pub entry_of : Member → List ℕ × Tree
entry_of = fold-Member Tree Items Members (List ℕ × Tree) value_step list_step members_step member_step
