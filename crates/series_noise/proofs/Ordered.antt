-- A list has one order in which it rises.
use Rattle.std.proofs.Common.{◌≡◌, ℕ, suc, ◌-◌, ◌/◌, ◌<◌, ◌≤◌, cond, List, [], ◌∷◌, length, refl, sym, ap, ◌∙◌, inl, inr, arith}
use Rattle.std.{specs.Prelude.{slice_index, nat_le, sum_by}, specs.List.Sorted.IsNonDecreasing, proofs.lemmas.Bool.{cases_order, le-leb, lt-leb}}
use Rattle.std.proofs.lemmas.List.{Sorted.sum_by-IsPermutation, Sums.sum_by-cons}
use Rattle.series_noise.specs.Noise.{IsLowerMedian}

-- 1 for a number up to c, else 0
abbrev up_to : ℕ → ℕ → ℕ
up_to c x = cond (nat_le x c) 1 0

-- each number stands in both lists equally often
abbrev Same : List ℕ → List ℕ → Type 0
Same xs ys = (f : ℕ → ℕ) → sum_by f xs ≡ sum_by f ys

tail : (x : ℕ) (xs : List ℕ) → IsNonDecreasing (x ∷ xs) → IsNonDecreasing xs
tail x xs rises i j d le within = rises (suc i) (suc j) d (omega (arith, le)) (omega (arith, within))

none-up-to : (c x : ℕ) (xs : List ℕ) → c < x → IsNonDecreasing (x ∷ xs) → sum_by (up_to c) (x ∷ xs) ≡ 0
none-up-to c x [] lt rises =
    let here : up_to c x ≡ 0 = ap (λ b. cond b 1 0) (lt-leb x c lt) in
    let sum = sum_by-cons (up_to c) x [] in
    omega (arith, here, sum)
none-up-to c x (y ∷ xs) lt rises =
    let next : x ≤ y = rises 0 1 0 (omega arith) (omega arith) in
    let rest = none-up-to c y xs (omega (arith, lt, next)) (tail x (y ∷ xs) rises) in
    let here : up_to c x ≡ 0 = ap (λ b. cond b 1 0) (lt-leb x c lt) in
    let sum = sum_by-cons (up_to c) x (y ∷ xs) in
    omega (arith, rest, here, sum)

one-up-to : (x : ℕ) (xs : List ℕ) → 0 < sum_by (up_to x) (x ∷ xs)
one-up-to x xs =
    let here : up_to x x ≡ 1 = ap (λ b. cond b 1 0) (le-leb x x (omega arith)) in
    let sum = sum_by-cons (up_to x) x xs in
    omega (arith, here, sum)

pub one-order : (xs ys : List ℕ) → IsNonDecreasing xs → IsNonDecreasing ys → Same xs ys → xs ≡ ys
one-order [] [] _ _ same = refl
one-order [] (y ∷ ys) _ _ same = absurd (let no = same (λ _. 1) in let one = sum_by-cons (λ (_ : ℕ). 1) y ys in omega (arith, no, one))
one-order (x ∷ xs) [] _ _ same = absurd (let no = same (λ _. 1) in let one = sum_by-cons (λ (_ : ℕ). 1) x xs in omega (arith, no, one))
one-order (x ∷ xs) (y ∷ ys) one other same = elim (cases_order x y) [
  | inl e ↦
      let rest : xs ≡ ys = one-order xs ys (tail x xs one) (tail y ys other)
      (λ f. let here = same f in let left = sum_by-cons f x xs in let right = sum_by-cons f y ys in let heads : f x ≡ f y = ap f e in omega (arith, here, left, right, heads)) in
      ap (λ z. z ∷ xs) e ∙ ap (λ zs. y ∷ zs) rest
  | inr ne ↦ elim ne [
    | inl lt ↦ absurd (let here = same (up_to x) in let some = one-up-to x xs in let none = none-up-to x y ys lt other in omega (arith, here, some, none))
    | inr gt ↦ absurd (let here = same (up_to y) in let some = one-up-to y ys in let none = none-up-to y x xs gt one in omega (arith, here, some, none))
  ]
]

pub one-median : (items : List ℕ) (one other : ℕ) → IsLowerMedian items one → IsLowerMedian items other → one ≡ other
one-median items one other m n =
    let same : m.ordered ≡ n.ordered = one-order m.ordered n.ordered m.rising n.rising
    (λ f. sum_by-IsPermutation f items m.ordered m.same_items ∙ sym (sum_by-IsPermutation f items n.ordered n.same_items)) in
    m.middle ∙ ap (λ (xs : List ℕ). slice_index xs ((length items - 1) / 2)) same ∙ sym n.middle
