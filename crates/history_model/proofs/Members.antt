-- Members of a list, and lists in a strict order.
use Rattle.std.proofs.{Common.{◌≡◌, ◌⊎◌, inl, inr, suc, true≢false, Ordering, Less, List, [], ◌∷◌, ◌++◌, refl, sym, ap, ◌∙◌, arith}, lemmas.Grind.common_steps}
use Rattle.std.specs.{Prelude.Contains, Cmp.IsTotalOrder, Ordering.{is_lt, ordering_reverse}, List.Sorted.IsStrictlySortedBy}
use Rattle.std.proofs.lemmas.{List.Elements.{All-contains, All-weaker, All-contains_itself, Contains-append_cases, recursion_from_All}, Map.Keys.sorted_tail}
use Rattle.std.proofs.lemmas.Map.Views.{All-after_first}

pub here : {A : Type 0} (x : A) (xs : List A) → Contains (x ∷ xs) x
here x xs = (0, omega arith, refl)

pub behind : {A : Type 0} (x y : A) (xs : List A) → Contains xs x → Contains (y ∷ xs) x
behind x y xs (k, within, is) = (suc k, omega (arith, within), is)

pub either : {A : Type 0} (x y : A) (xs : List A) → Contains (y ∷ xs) x → (y ≡ x) ⊎ Contains xs x
either x y xs x3 = grind (arith, common_steps)

pub none-in-nil : {A : Type 0} (x : A) → Contains [] x → ⊥
none-in-nil x (k, within, is) = absurd (omega (arith, within))

-- the first is below each behind it
pub later : {A : Type 0} (R : A → A → Ordering) (x : A) (xs : List A) (y : A) → IsStrictlySortedBy R (x ∷ xs) → Contains xs y → R x y ≡ Less
later {A} R x xs y up has = All-contains (λ (z : A). R x z ≡ Less) xs y (All-after_first R x xs up) has

-- of two, not each is below the other
pub not-both : {A : Type 0} {R : A → A → Ordering} → IsTotalOrder R → (x y : A) → R x y ≡ Less → R y x ≡ Less → ⊥
not-both order x y p q = true≢false (ap is_lt (sym p ∙ order.antisymm x y ∙ ap ordering_reverse q))

pub sorted-nil : {A : Type 0} (R : A → A → Ordering) → IsStrictlySortedBy R []
unfolding IsStrictlySortedBy
sorted-nil R = tt

pub sorted-cons : {A : Type 0} (R : A → A → Ordering) (x : A) (xs : List A) → ((y : A) → Contains xs y → R x y ≡ Less) → IsStrictlySortedBy R xs → IsStrictlySortedBy R (x ∷ xs)
unfolding IsStrictlySortedBy
sorted-cons {A} R x xs below up =
    (recursion_from_All (λ (y : A). R x y ≡ Less) xs (All-weaker (Contains xs) (λ (y : A). R x y ≡ Less) below xs (All-contains_itself xs)), up)

pub sorted-append : {A : Type 0} (R : A → A → Ordering) (xs ys : List A) → IsStrictlySortedBy R xs → IsStrictlySortedBy R ys
    → ((x y : A) → Contains xs x → Contains ys y → R x y ≡ Less) → IsStrictlySortedBy R (xs ++ ys)
sorted-append R [] ys up up' apart = up'
sorted-append R (x ∷ xs) ys up up' apart =
    sorted-cons R x (xs ++ ys)
    (λ y has. elim (Contains-append_cases xs ys y has) [ inl near ↦ later R x xs y up near | inr far ↦ apart x y (here x xs) far ])
    (sorted-append R xs ys (sorted_tail R x xs up) up' (λ a b near far. apart a b (behind a x xs near) far))
