-- The greatest and the least of some numbers, with one more at the end, and where they stand.
use Rattle.std.proofs.Common.{◌≡◌, ◌⊎◌, inl, inr, ℕ, ◌+◌, ◌-◌, ◌<◌, ◌≤◌, max, min, List, [], ◌∷◌, ◌++◌, length, get_or, refl, sym, ◌∙◌, subst, arith, suc, zero}
use Rattle.std.{specs.Prelude.Contains, specs.List.Sorted.IsStrictlyIncreasing, proofs.lemmas.Bool.cases_lt, proofs.lemmas.Grind.common_steps}
use Rattle.bisect_core.specs.Turns.{greatest, least}

pub greatest_push : (xs : List ℕ) (x : ℕ) → greatest (xs ++ x ∷ []) ≡ max x (greatest xs)
greatest_push [] x = refl
greatest_push (y ∷ xs) x = let e = greatest_push xs x in rw e (omega arith)

pub least_push : (n : ℕ) (xs : List ℕ) (x : ℕ) → least n (xs ++ x ∷ []) ≡ min x (least n xs)
least_push n [] x = refl
least_push n (y ∷ xs) x = let e = least_push n xs x in rw e (omega arith)

pub least-le : (n : ℕ) (xs : List ℕ) → least n xs ≤ n
least-le n [] = omega arith
least-le n (x ∷ xs) = omega (arith, least-le n xs)

pub contains_first : (x : ℕ) (xs : List ℕ) (y : ℕ) → y ≡ x → Contains (x ∷ xs) y
contains_first x xs y e = (0, omega arith, sym e)

pub contains_later : (x : ℕ) (xs : List ℕ) (y : ℕ) → Contains xs y → Contains (x ∷ xs) y
contains_later x xs y (k, within, is) = (suc k, omega arith, is)

max_either : (a b : ℕ) → (max a b ≡ a) ⊎ (max a b ≡ b)
max_either a b = elim (cases_lt a b) [ inl h ↦ inr (omega arith) | inr h ↦ inl (omega arith) ]

min_either : (a b : ℕ) → (min a b ≡ a) ⊎ (min a b ≡ b)
min_either a b = elim (cases_lt a b) [ inl h ↦ inl (omega arith) | inr h ↦ inr (omega arith) ]

pub greatest_stands : (xs : List ℕ) → (greatest xs ≡ 0) ⊎ Contains xs (greatest xs)
greatest_stands [] = inl refl
greatest_stands (x ∷ xs) = elim (max_either x (greatest xs)) [
  | inl e ↦ inr (contains_first x xs (max x (greatest xs)) e)
  | inr e ↦ elim (greatest_stands xs) [
    | inl none ↦ inl (e ∙ none)
    | inr stands ↦ inr (contains_later x xs (max x (greatest xs)) (subst (λ (y : ℕ). Contains xs y) (sym e) stands))
  ]
]

pub least_stands : (n : ℕ) (xs : List ℕ) → (least n xs ≡ n) ⊎ Contains xs (least n xs)
least_stands n [] = inl refl
least_stands n (x ∷ xs) = elim (min_either x (least n xs)) [
  | inl e ↦ inr (contains_first x xs (min x (least n xs)) e)
  | inr e ↦ elim (least_stands n xs) [
    | inl none ↦ inl (e ∙ none)
    | inr stands ↦ inr (contains_later x xs (min x (least n xs)) (subst (λ (y : ℕ). Contains xs y) (sym e) stands))
  ]
]

-- rising numbers rise from any place to any later one
pub rises : (xs : List ℕ) (i d : ℕ) → IsStrictlyIncreasing xs → i + suc d < length xs → get_or xs i 0 < get_or xs (i + suc d) 0
rises xs i zero h within = let a : i + 1 < length xs = omega arith in let e : i + suc zero ≡ i + 1 = omega arith in rw e (h i a)
rises xs i (suc d) h within = grind (arith, common_steps, rises xs i d h (omega arith))

pub rises_to : (xs : List ℕ) (i j : ℕ) → IsStrictlyIncreasing xs → i < j → j < length xs → get_or xs i 0 < get_or xs j 0
rises_to xs i j h apart within =
    let e : i + suc (j - i - 1) ≡ j = omega arith in
    let goes : get_or xs i 0 < get_or xs (i + suc (j - i - 1)) 0 = rises xs i (j - i - 1) h (omega arith) in
    rw e at goes
