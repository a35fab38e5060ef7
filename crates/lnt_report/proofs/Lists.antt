-- Lists of trees, and how deep what is in them lies.
use Rattle.std.proofs.Common.{◌≡◌, ℕ, zero, suc, ◌<◌, ◌≤◌, List, [], ◌∷◌, map, length, get_or, refl, ap, arith}
use Rattle.json_text.specs.{Tree.{Tree, nesting, items_nesting, members_nesting}, View.{items_of, members_of}}
use Rattle.lnt_report.specs.Look.{Entry, entries, trees}

pub trees_of_items : (xs : List Tree) → trees (items_of xs) ≡ xs
trees_of_items [] = refl
trees_of_items (x ∷ xs) = ap (λ ys. x ∷ ys) (trees_of_items xs)

pub entries_of_members : (xs : List Entry) → entries (members_of xs) ≡ xs
entries_of_members [] = refl
entries_of_members (x ∷ xs) = ap (λ ys. x ∷ ys) (entries_of_members xs)

pub item_no_deeper : {A : Type 0} (f : A → Tree) (xs : List A) (i : ℕ) (d : A) → i < length xs → nesting (f (get_or xs i d)) ≤ items_nesting (items_of (map f xs))
item_no_deeper f [] i d h = absurd (omega arith)
item_no_deeper f (x ∷ xs) zero d h = omega arith
item_no_deeper f (x ∷ xs) (suc i) d h = let more : i < length xs = omega arith in omega (arith, item_no_deeper f xs i d more)

pub member_no_deeper : {A : Type 0} (f : A → Entry) (xs : List A) (i : ℕ) (d : A) → i < length xs → nesting (f (get_or xs i d)).1 ≤ members_nesting (members_of (map f xs))
member_no_deeper f [] i d h = absurd (omega arith)
member_no_deeper f (x ∷ xs) zero d h = omega arith
member_no_deeper f (x ∷ xs) (suc i) d h = let more : i < length xs = omega arith in omega (arith, member_no_deeper f xs i d more)
