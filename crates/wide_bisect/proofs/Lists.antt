-- The least and the greatest of some numbers, and how many of some numbers pass a test.
use Rattle.std.proofs.Common.{◌≡◌, ℕ, zero, suc, ◌-◌, ◌<◌, ◌≤◌, max, min, Bool, true, false, eqb, List, [], ◌∷◌, length, get_or, map, filter, inl, inr, refl, arith}
use Rattle.std.{specs.List.All, proofs.lemmas.Bool.{cases_Bool, eqb-true, eq-eqb, or_cases, or_left, or_right}}
use Rattle.std.proofs.lemmas.List.Elements.{All-head, All-tail, All-cons, All-nil}
use Rattle.wide_bisect.specs.{declared.said.Said.Said, Answers.{place_of, is_among, greatest, least}}

-- ---- the least and the greatest

pub least-le : (n : ℕ) (xs : List ℕ) → least n xs ≤ n
least-le n [] = omega arith
least-le n (x ∷ xs) = omega (arith, least-le (min n x) xs)

pub greatest-ge : (n : ℕ) (xs : List ℕ) → n ≤ greatest n xs
greatest-ge n [] = omega arith
greatest-ge n (x ∷ xs) = omega (arith, greatest-ge (max n x) xs)

pub least-among : (n : ℕ) (xs : List ℕ) (y : ℕ) → is_among y xs ≡ true → least n xs ≤ y
least-among n [] y h = absurd (cc)
least-among n (x ∷ xs) y h = elim (or_cases (eqb x y) (is_among y xs) h) [
  | inl e ↦ omega (arith, eqb-true x y e, least-le (min n x) xs)
  | inr k ↦ least-among (min n x) xs y k
]

pub greatest-among : (n : ℕ) (xs : List ℕ) (y : ℕ) → is_among y xs ≡ true → y ≤ greatest n xs
greatest-among n [] y h = absurd (cc)
greatest-among n (x ∷ xs) y h = elim (or_cases (eqb x y) (is_among y xs) h) [
  | inl e ↦ omega (arith, eqb-true x y e, greatest-ge (max n x) xs)
  | inr k ↦ greatest-among (max n x) xs y k
]

pub least-above : (a n : ℕ) (xs : List ℕ) → a < n → All (λ x. a < x) xs → a < least n xs
least-above a n [] h all = h
least-above a n (x ∷ xs) h all =
    let one : a < x = All-head (λ x. a < x) x xs all in
    least-above a (min n x) xs (omega arith) (All-tail (λ x. a < x) x xs all)

pub greatest-below : (a n : ℕ) (xs : List ℕ) → n < a → All (λ x. x < a) xs → greatest n xs < a
greatest-below a n [] h all = h
greatest-below a n (x ∷ xs) h all =
    let one : x < a = All-head (λ x. x < a) x xs all in
    greatest-below a (max n x) xs (omega arith) (All-tail (λ x. x < a) x xs all)

-- ---- what passes a test

pub among_filter : (p : ℕ → Bool) (xs : List ℕ) (y : ℕ) → is_among y xs ≡ true → p y ≡ true → is_among y (filter p xs) ≡ true
among_filter p [] y h passes = absurd (cc)
among_filter p (x ∷ xs) y h passes = elim (or_cases (eqb x y) (is_among y xs) h) [
  | inl e ↦
      let same : x ≡ y = eqb-true x y e in
      rw (same, passes) (or_left (eqb y y) (is_among y (filter p xs)) (eq-eqb y y refl))
  | inr k ↦ elim (cases_Bool (p x)) [
    | inl yes' ↦ rw yes' (or_right (eqb x y) (is_among y (filter p xs)) (among_filter p xs y k passes))
    | inr no' ↦ rw no' (among_filter p xs y k passes)
  ]
]

-- the places of those that pass
pub among_said : (p : Said → Bool) (said : List Said) (i : ℕ) (d : Said) → i < length said → p (get_or said i d) ≡ true
    → is_among (get_or said i d).place (map place_of (filter p said)) ≡ true
among_said p [] i d h passes = absurd (omega arith)
among_said p (x ∷ said) zero d h passes = rw passes (or_left (eqb x.place x.place) (is_among x.place (map place_of (filter p said))) (eq-eqb x.place x.place refl))
among_said p (x ∷ said) (suc i) d h passes = elim (cases_Bool (p x)) [
  | inl yes' ↦ rw yes' (or_right (eqb x.place (get_or said i d).place) (is_among (get_or said i d).place (map place_of (filter p said))) (among_said p said i d (omega arith) passes))
  | inr no' ↦ rw no' (among_said p said i d (omega arith) passes)
]

pub all_said : (P : ℕ → Type 0) (p : Said → Bool) (said : List Said) → ((i : ℕ) (d : Said) → i < length said → p (get_or said i d) ≡ true → P (get_or said i d).place)
    → All P (map place_of (filter p said))
all_said P p [] h = All-nil P
all_said P p (x ∷ said) h =
    let rest : All P (map place_of (filter p said)) = all_said P p said (λ (i : ℕ) (d : Said) (k : i < length said) (passes : p (get_or said i d) ≡ true). h (suc i) d (omega arith) passes) in
    elim (cases_Bool (p x)) [
      | inl yes' ↦ rw yes' (All-cons P x.place (map place_of (filter p said)) (h 0 x (omega arith) yes') rest)
      | inr no' ↦ rw no' rest
    ]

pub filter-le : (p : ℕ → Bool) (xs : List ℕ) → length (filter p xs) ≤ length xs
filter-le p [] = omega arith
filter-le p (x ∷ xs) = elim (cases_Bool (p x)) [
  | inl yes' ↦ rw yes' (omega (arith, filter-le p xs))
  | inr no' ↦ rw no' (omega (arith, filter-le p xs))
]

-- one that doesn't pass
pub filter-lt : (p : ℕ → Bool) (xs : List ℕ) (i : ℕ) → i < length xs → p (get_or xs i 0) ≡ false → length (filter p xs) < length xs
filter-lt p [] i h fails = absurd (omega arith)
filter-lt p (x ∷ xs) zero h fails = rw fails (omega (arith, filter-le p xs))
filter-lt p (x ∷ xs) (suc i) h fails = elim (cases_Bool (p x)) [
  | inl yes' ↦ rw yes' (omega (arith, filter-lt p xs i (omega arith) fails))
  | inr no' ↦ rw no' (omega (arith, filter-lt p xs i (omega arith) fails))
]

-- where none passes
none_pass : (p : ℕ → Bool) (xs : List ℕ) → ((i : ℕ) → i < length xs → p (get_or xs i 0) ≡ true → ⊥) → length (filter p xs) ≡ 0
none_pass p [] h = refl
none_pass p (x ∷ xs) h = elim (cases_Bool (p x)) [
  | inl yes' ↦ absurd (h 0 (omega arith) yes')
  | inr no' ↦ rw no' (none_pass p xs (λ (i : ℕ) (k : i < length xs) (passes : p (get_or xs i 0) ≡ true). h (suc i) (omega arith) passes))
]

-- where all that pass stand from index u on and before v
pub few_pass : (p : ℕ → Bool) (xs : List ℕ) (u v : ℕ) → ((i : ℕ) → i < length xs → p (get_or xs i 0) ≡ true → (u ≤ i) × (i < v)) → length (filter p xs) ≤ v - u
few_pass p xs u zero h = rw (none_pass p xs (λ (i : ℕ) (k : i < length xs) (passes : p (get_or xs i 0) ≡ true). omega (arith, (h i k passes).1))) (omega arith)
few_pass p [] u (suc v) h = omega arith
few_pass p (x ∷ xs) u (suc v) h =
    let rest : length (filter p xs) ≤ v - (u - 1) = few_pass p xs (u - 1) v (λ (i : ℕ) (k : i < length xs) (passes : p (get_or xs i 0) ≡ true). let both : (u ≤ suc i) × (suc i < suc v) = h (suc i) (omega arith) passes in (omega (arith, both.0), omega (arith, both.1))) in
    elim (cases_Bool (p x)) [
      | inl yes' ↦
          let first : (u ≤ 0) × (0 < suc v) = h 0 (omega arith) yes' in
          rw yes' (omega (arith, rest, first.0))
      | inr no' ↦ rw no' (omega (arith, rest))
    ]
