-- The items and members of a tree, as their vectors hold them.
use Rattle.std.proofs.Common.{◌≡◌, ℕ, zero, suc, ◌+◌, ◌<◌, ◌≤◌, List, [], ◌∷◌, ◌++◌, length, get_or, take, map, Option, Some, None, MatchOption, IfSome, Bor, arith, sym, ap, ◌∙◌}
use Rattle.json_text.specs.{View.{items_of, members_of, tree_of, entry_of}, Parts.{item_count, item_at, member_count, member_at, then_item, then_member}}
use Rattle.std.{proofs.lemmas.List.take_all, specs.List.HoldsAt, proofs.lemmas.Grind.common_steps}
use Rattle.json_text.proofs.Views.{items_of-end, members_of-end, map-end}

-- how a list of a tree is counted, looked up and added to, as the items of its vector
pub record IsListed {A T L : Type 0} (view : A → T) (listed : List A → L) (count : L → ℕ) (at : L → ℕ → Option T) (and_last : L → T → L) : Type 0 where
  pub no_count : count (listed []) ≡ 0
  pub one_more : (x : A) (xs : List A) → count (listed (x ∷ xs)) ≡ 1 + count (listed xs)
  pub past : (place : ℕ) → at (listed []) place ≡ None
  pub at_first : (x : A) (xs : List A) → at (listed (x ∷ xs)) 0 ≡ Some (view x)
  pub at_next : (x : A) (xs : List A) (place : ℕ) → at (listed (x ∷ xs)) (suc place) ≡ at (listed xs) place
  pub at_end : (xs : List A) (x : A) → listed (xs ++ x ∷ []) ≡ and_last (listed xs) (view x)

pub items_listed : IsListed tree_of (λ items. items_of (map tree_of items)) item_count item_at then_item
items_listed = grind (arith, common_steps, map-end, items_of-end, map)

pub members_listed : IsListed entry_of (λ members. members_of (map entry_of members)) member_count member_at then_member
members_listed = grind (arith, common_steps, map-end, members_of-end, map)

module _ {A T L : Type 0} {view : A → T} {listed : List A → L} {count : L → ℕ} {at : L → ℕ → Option T} {and_last : L → T → L} (is : IsListed view listed count at and_last) where
  pub counted : (xs : List A) → count (listed xs) ≡ length xs
  counted [] = is.no_count
  counted (x ∷ xs) = let inner = counted xs in let one = is.one_more x xs in omega (arith, inner, one)

  missing : (xs : List A) (place : ℕ) → length xs ≤ place → at (listed xs) place ≡ None
  missing [] place h = is.past place
  missing (x ∷ xs) zero h = absurd (omega arith)
  missing (x ∷ xs) (suc place) h = is.at_next x xs place ∙ missing xs place (omega (arith, h))

  found : (xs : List A) (place : ℕ) (other : A) → place < length xs → at (listed xs) place ≡ Some (view (get_or xs place other))
  found [] place other h = absurd (omega arith)
  found (x ∷ xs) zero other h = is.at_first x xs
  found (x ∷ xs) (suc place) other h = is.at_next x xs place ∙ found xs place other (omega (arith, h))

  pub got : (made : L) (xs : List A) (place : ℕ) (result : Option (Bor A)) → made ≡ listed xs → MatchOption result (length xs ≤ place) (λ item. (place < length xs) × HoldsAt (λ held. item.now ≡ held) xs place)
      → IfSome result (λ item. item.now ≡ get_or xs place item.now) → MatchOption result (at made place ≡ None) (λ item. at made place ≡ Some (view item.now))
  got made xs place result same past here = grind (arith, common_steps, missing, found, view)

  -- one more at the end
  pub added : (before xs : List A) (x : A) (old new : L) → old ≡ listed before → new ≡ listed xs → xs ≡ before ++ x ∷ [] → new ≡ and_last old (view x)
  added before xs x old new was is_now same = is_now ∙ ap listed same ∙ is.at_end before x ∙ ap (λ held. and_last held (view x)) (sym was)

  -- copies, one by one
  pub copied_one : (xs : List A) (n : ℕ) (one copy : A) (made new : L) → made ≡ listed (take n xs) → n < length xs → one ≡ get_or xs n one → view copy ≡ view one
      → new ≡ and_last made (view copy) → new ≡ listed (take (n + 1) xs)
  copied_one xs n one copy made new so_far inside here same pushed = grind (arith, common_steps)

  pub copied : (xs : List A) (n : ℕ) (made whole : L) → whole ≡ listed xs → made ≡ listed (take n xs) → length xs ≤ n → made ≡ whole
  copied xs n made whole same so_far all = so_far ∙ ap listed (take_all n xs all) ∙ sym same
