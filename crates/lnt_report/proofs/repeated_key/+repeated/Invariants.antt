use Rattle.std.{proofs.Common.{◌≡◌, ℕ, ◌+◌, ◌*◌, List, [], map, drop, is_some}, specs.BTreeMap.get_by, specs.Cmp.Lexicographic.slice_cmp}
use Rattle.std.specs.{Ordering.nat_cmp, List.list_any, Str.bytes_eq}
use Rattle.json_text.specs.{Tree.{nesting, items_nesting, members_nesting}, View.{tree_of, items_of, members_of}, View.entry_of}
use Rattle.lnt_report.specs.Rules.{repeated_in_items, repeated_in_members}
use Rattle.lnt_report.proofs.repeated_key.+repeated.Given as goal

-- the path is that of the items that are left
abbrev pub invariant-repeated_in_list-loop-place : goal.invariant-repeated_in_list-loop-place
invariant-repeated_in_list-loop-place l = repeated_in_items 0 (items_of (map tree_of l.items)) ≡ repeated_in_items l.place (items_of (map tree_of (drop l.place l.items)))

-- the path is that of the members that are left, behind the keys in the map
abbrev pub invariant-repeated_in_object-loop-member : goal.invariant-repeated_in_object-loop-member
invariant-repeated_in_object-loop-member l =
    (keys : List (List ℕ))
    × ((q : List ℕ) → is_some (get_by (λ k. slice_cmp nat_cmp q k.now) l.before) ≡ list_any (λ k. bytes_eq k q) keys)
    × (repeated_in_members [] (members_of (map entry_of l.members)) ≡ repeated_in_members keys (members_of (map entry_of (drop l.member-index l.members))))

-- twice the levels, and one more for those of a list or an object
abbrev pub decreases-repeated_key_in : goal.decreases-repeated_key_in
decreases-repeated_key_in l = 2 * nesting (tree_of l.value.now)

abbrev pub decreases-repeated_in_list : goal.decreases-repeated_in_list
decreases-repeated_in_list l = 2 * items_nesting (items_of (map tree_of l.items.now)) + 1

abbrev pub decreases-repeated_in_object : goal.decreases-repeated_in_object
decreases-repeated_in_object l = 2 * members_nesting (members_of (map entry_of l.members.now)) + 1
