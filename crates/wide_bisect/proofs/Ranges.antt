-- Filters of ranges of numbers.
use Rattle.std.proofs.Common.{◌≡◌, ℕ, zero, suc, ◌+◌, ◌-◌, ◌<◌, ◌≤◌, Bool, true, false, ◌&&◌, cond, List, [], ◌∷◌, ◌++◌, length, get_or, filter, refl, sym, ap, ◌∙◌, arith, inl, inr}
use Rattle.std.{specs.List.{range_with_len, All}, proofs.lemmas.Bool.cases_Bool, proofs.lemmas.List.append-nil}
use Rattle.std.proofs.lemmas.List.FromFn.{length-range_with_len, get_or-range_with_len}
use Rattle.std.proofs.lemmas.List.Elements.{All-from_get_or, All-head, All-tail, All-nil, All-cons, filter-append}

pub filter_filter : (p q : ℕ → Bool) (xs : List ℕ) → filter p (filter q xs) ≡ filter (λ x. q x && p x) xs
filter_filter p q [] = refl
filter_filter p q (x ∷ xs) = elim (cases_Bool (q x)) [
  | inl yes' ↦ rw yes' (elim (cases_Bool (p x)) [
    | inl also ↦ rw also (ap (λ (ys : List ℕ). x ∷ ys) (filter_filter p q xs))
    | inr fails ↦ rw fails (filter_filter p q xs)
  ])
  | inr no' ↦ rw no' (filter_filter p q xs)
]

filter_none : (p : ℕ → Bool) (xs : List ℕ) → All (λ x. p x ≡ false) xs → filter p xs ≡ []
filter_none p [] h = refl
filter_none p (x ∷ xs) h =
    let one : p x ≡ false = All-head (λ x. p x ≡ false) x xs h in
    rw one (filter_none p xs (All-tail (λ x. p x ≡ false) x xs h))

filter_agrees : (p q : ℕ → Bool) (xs : List ℕ) → All (λ x. p x ≡ q x) xs → filter p xs ≡ filter q xs
filter_agrees p q [] h = refl
filter_agrees p q (x ∷ xs) h =
    let one : p x ≡ q x = All-head (λ x. p x ≡ q x) x xs h in
    let rest : filter p xs ≡ filter q xs = filter_agrees p q xs (All-tail (λ x. p x ≡ q x) x xs h) in
    rw (one, rest) refl

pub range_all : (P : ℕ → Type 0) (a n : ℕ) → ((x : ℕ) → a ≤ x → x < a + n → P x) → All P (range_with_len a n)
range_all P a n h =
    All-from_get_or P (range_with_len a n) 0
    (λ (i : ℕ) (within : i < length (range_with_len a n)).
    let m : length (range_with_len a n) ≡ n = length-range_with_len a n in
    let e : get_or (range_with_len a n) i 0 ≡ a + i = get_or-range_with_len a n i 0 (omega (arith, m, within)) in
    rw e (h (a + i) (omega arith) (omega (arith, m, within))))

range_split : (a p q : ℕ) → range_with_len a (p + q) ≡ range_with_len a p ++ range_with_len (a + p) q
range_split a zero q =
    let e : zero + q ≡ q = omega arith in
    let f : a + zero ≡ a = omega arith in
    rw (e, f) refl
range_split a (suc p) q =
    let e : suc p + q ≡ suc (p + q) = omega arith in
    let f : a + suc p ≡ a + 1 + p = omega arith in
    rw (e, f) (ap (λ (xs : List ℕ). a ∷ xs) (range_split (a + 1) p q))

-- a filter of a range that passes nothing but between two numbers
pub filter_range : (p q : ℕ → Bool) (low high lo hi : ℕ) → low ≤ lo → lo < hi → hi ≤ high
    → ((x : ℕ) → x ≤ lo → p x ≡ false) → ((x : ℕ) → hi ≤ x → p x ≡ false) → ((x : ℕ) → lo < x → x < hi → p x ≡ q x)
    → filter p (range_with_len (low + 1) (high - low - 1)) ≡ filter q (range_with_len (lo + 1) (hi - lo - 1))
filter_range p q low high lo hi first apart last below above same =
    let parts : high - low - 1 ≡ (lo - low) + ((hi - lo - 1) + (high - hi)) = omega arith in
    let at : low + 1 + (lo - low) ≡ lo + 1 = omega arith in
    let cut : range_with_len (low + 1) (high - low - 1)
    ≡ range_with_len (low + 1) (lo - low) ++ range_with_len (lo + 1) ((hi - lo - 1) + (high - hi)) =
    ap (range_with_len (low + 1)) parts ∙ range_split (low + 1) (lo - low) ((hi - lo - 1) + (high - hi)) ∙ ap (λ (a : ℕ). range_with_len (low + 1) (lo - low) ++ range_with_len a ((hi - lo - 1) + (high - hi))) at in
    let more : range_with_len (lo + 1) ((hi - lo - 1) + (high - hi)) ≡ range_with_len (lo + 1) (hi - lo - 1) ++ range_with_len (lo + 1 + (hi - lo - 1)) (high - hi) = range_split (lo + 1) (hi - lo - 1) (high - hi) in
    let one : filter p (range_with_len (low + 1) (lo - low)) ≡ [] = filter_none p (range_with_len (low + 1) (lo - low)) (range_all (λ x. p x ≡ false) (low + 1) (lo - low) (λ (x : ℕ) (h : low + 1 ≤ x) (k : x < low + 1 + (lo - low)). below x (omega arith))) in
    let three : filter p (range_with_len (lo + 1 + (hi - lo - 1)) (high - hi)) ≡ [] = filter_none p (range_with_len (lo + 1 + (hi - lo - 1)) (high - hi)) (range_all (λ x. p x ≡ false) (lo + 1 + (hi - lo - 1)) (high - hi) (λ (x : ℕ) (h : lo + 1 + (hi - lo - 1) ≤ x) (k : x < lo + 1 + (hi - lo - 1) + (high - hi)). above x (omega arith))) in
    let two : filter p (range_with_len (lo + 1) (hi - lo - 1)) ≡ filter q (range_with_len (lo + 1) (hi - lo - 1)) = filter_agrees p q (range_with_len (lo + 1) (hi - lo - 1)) (range_all (λ x. p x ≡ q x) (lo + 1) (hi - lo - 1) (λ (x : ℕ) (h : lo + 1 ≤ x) (k : x < lo + 1 + (hi - lo - 1)). same x (omega arith) (omega arith))) in
    rw (cut, more, filter-append, filter-append, one, three, two) (append-nil (filter q (range_with_len (lo + 1) (hi - lo - 1))))

pub filter_all : (p : ℕ → Bool) (xs : List ℕ) → ((x : ℕ) → p x ≡ true) → filter p xs ≡ xs
filter_all p [] h = refl
filter_all p (x ∷ xs) h = rw (h x) (ap (λ (ys : List ℕ). x ∷ ys) (filter_all p xs h))

-- where a filter of a range passes nothing
pub filter_gone : (p : ℕ → Bool) (xs : List ℕ) → filter p xs ≡ [] → All (λ x. p x ≡ false) xs
filter_gone p [] h = All-nil (λ x. p x ≡ false)
filter_gone p (x ∷ xs) h = elim (cases_Bool (p x)) [
  | inl yes' ↦
      let e : cond (p x) (x ∷ filter p xs) (filter p xs) ≡ x ∷ filter p xs = rw yes' refl in
      absurd (cc)
  | inr no' ↦
      let e : cond (p x) (x ∷ filter p xs) (filter p xs) ≡ filter p xs = rw no' refl in
      All-cons (λ x. p x ≡ false) x xs no' (filter_gone p xs (sym e ∙ h))
]
