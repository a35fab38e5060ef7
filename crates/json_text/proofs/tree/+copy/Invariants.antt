use Rattle.std.proofs.Common.{◌≡◌, map, take}
use Rattle.json_text.specs.View.{items_of, members_of, tree_of, entry_of, items_view, members_view}
use Rattle.json_text.proofs.tree.+copy.Given as goal

-- what was copied so far
abbrev pub invariant-JsonList::copy-loop-item : goal.invariant-JsonList::copy-loop-item
invariant-JsonList::copy-loop-item l = items_view l.made ≡ items_of (map tree_of (take l.item-index l.item-items))

abbrev pub invariant-JsonMembers::copy-loop-member : goal.invariant-JsonMembers::copy-loop-member
invariant-JsonMembers::copy-loop-member l = members_view l.made ≡ members_of (map entry_of (take l.member-index l.member-items))
