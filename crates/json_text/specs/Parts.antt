-- The items of a list and the members of an object: one more at the end, and each by its place.
use Rattle.std.specs.Prelude.{ℕ, zero, suc, ◌+◌, List, Option, Some, None}
use Rattle.json_text.specs.Tree.{Tree, Items, no_items, item, Members, no_members, member}

-- one item more, at the end
abbrev pub then_item : Items → Tree → Items
then_item no_items tree = item tree no_items
then_item (item first items) tree = item first (then_item items tree)

-- one member more, at the end: its key and its value
abbrev pub then_member : Members → List ℕ × Tree → Members
then_member no_members entry = member entry.0 entry.1 no_members
then_member (member key tree members) entry = member key tree (then_member members entry)

-- how many items there are
abbrev pub item_count : Items → ℕ
item_count no_items = 0
item_count (item tree items) = 1 + item_count items

-- the item at this place, from 0
abbrev pub item_at : Items → ℕ → Option Tree
item_at no_items place = None
item_at (item tree items) zero = Some tree
item_at (item tree items) (suc place) = item_at items place

-- how many members there are
abbrev pub member_count : Members → ℕ
member_count no_members = 0
member_count (member key tree others) = 1 + member_count others

-- the key and the value of the member at this place, from 0
abbrev pub member_at : Members → ℕ → Option (List ℕ × Tree)
member_at no_members place = None
member_at (member key tree others) zero = Some (key, tree)
member_at (member key tree others) (suc place) = member_at others place
