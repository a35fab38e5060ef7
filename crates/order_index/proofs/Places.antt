-- The place of the first element that passes a test, and that element.
use Rattle.std.proofs.Common.{◌≡◌, ℕ, suc, ◌+◌, Bool, true, false, cond, List, [], ◌∷◌, ◌++◌, length, refl, sym, ap, ◌∙◌, Option, Some, None, find, arith}
use Rattle.std.specs.{Prelude.{is_some, slice_get}, List.position_from}

-- at the place there is the element
pub placed-is : {A : Type 0} (p : A → Bool) (from : ℕ) (xs : List A) (i : ℕ) → position_from p from xs ≡ Some i
    → (k : ℕ) × ((i ≡ from + k) × (slice_get xs k ≡ find p xs))
placed-is p from [] i is = absurd (cc)
placed-is p from (x ∷ xs) i is = at (p x) is (placed-is p (from + 1) xs i)
  where
    at : (t : Bool) → cond t (Some from) (position_from p (from + 1) xs) ≡ Some i
        → (position_from p (from + 1) xs ≡ Some i → (k : ℕ) × ((i ≡ from + 1 + k) × (slice_get xs k ≡ find p xs)))
        → (k : ℕ) × ((i ≡ from + k) × (slice_get (x ∷ xs) k ≡ cond t (Some x) (find p xs)))
    at true is later = (0, (let same : from ≡ i = cc in omega (arith, same), refl))
    at false is later = let there = later is in (suc there.0, (omega (arith, there.1.0), there.1.1))

-- there is a place where there is an element
pub placed-some : {A : Type 0} (p : A → Bool) (from : ℕ) (xs : List A) → is_some (position_from p from xs) ≡ is_some (find p xs)
placed-some p from [] = refl
placed-some p from (x ∷ xs) = at (p x) (placed-some p (from + 1) xs)
  where
    at : (t : Bool) → is_some (position_from p (from + 1) xs) ≡ is_some (find p xs)
        → is_some (cond t (Some from) (position_from p (from + 1) xs)) ≡ is_some (cond t (Some x) (find p xs))
    at true later = refl
    at false later = later

pub placed-none : {A : Type 0} (p : A → Bool) (from : ℕ) (xs : List A) → position_from p from xs ≡ None → find p xs ≡ None
placed-none p from xs none = empty (find p xs) (sym (placed-some p from xs) ∙ ap is_some none)
  where
    empty : {A : Type 0} (o : Option A) → is_some o ≡ false → o ≡ None
    empty None is = refl
    empty (Some x) is = absurd (cc)

-- ---- an element more
pub place-missed : {A : Type 0} (p : A → Bool) (from : ℕ) (xs : List A) (y : A) → p y ≡ false → position_from p from (xs ++ y ∷ []) ≡ position_from p from xs
place-missed p from [] y miss = ap (λ b. cond b (Some from) None) miss
place-missed p from (x ∷ xs) y miss = ap (λ o. cond (p x) (Some from) o) (place-missed p (from + 1) xs y miss)

pub place-last : {A : Type 0} (p : A → Bool) (from : ℕ) (xs : List A) (y : A) → find p xs ≡ None → p y ≡ true
    → position_from p from (xs ++ y ∷ []) ≡ Some (from + length xs)
place-last p from [] y none hit = ap (λ b. cond b (Some from) None) hit ∙ ap Some (omega arith)
place-last p from (x ∷ xs) y none hit = at (p x) none (λ no. place-last p (from + 1) xs y no hit)
  where
    at : (t : Bool) → cond t (Some x) (find p xs) ≡ None → (find p xs ≡ None → position_from p (from + 1) (xs ++ y ∷ []) ≡ Some (from + 1 + length xs))
        → cond t (Some from) (position_from p (from + 1) (xs ++ y ∷ [])) ≡ Some (from + length (x ∷ xs))
    at true = λ no later. absurd (cc)
    at false = λ no later. later no ∙ ap Some (omega arith)
