-- Private: no public contract cites this. First entries of a longer list, and tests.
use Rattle.std.proofs.lemmas.Grind.{common_steps}
use Rattle.std.proofs.Common.{◌≡◌, ◌<◌, ◌≤◌, ◌+◌, ◌-◌, ℕ, zero, suc, Bool, true, false, List, [], ◌∷◌, ◌++◌, length, map, refl, Some, arith}
use Rattle.std.{specs.List.AllByRecursion, specs.Prelude.{slice_get, bytes_eq, ◌&&◌, ◌||◌}, proofs.lemmas.Slice.Eq.bytes_eq-Decides}
use native.Mathlib.Numerals.{unary_clauses}

-- what stands within the first of two lists
pub stays-before : {A : Type 0} (xs ys : List A) (n : ℕ) → n < length xs → slice_get (xs ++ ys) n ≡ slice_get xs n
stays-before [] ys n within = absurd (omega (arith, within))
stays-before (x ∷ xs) ys zero within = refl
stays-before (x ∷ xs) ys (suc n) within = stays-before xs ys n (omega (arith, within))

pub same-bytes : (xs ys : List ℕ) → bytes_eq xs ys ≡ true → xs ≡ ys
same-bytes xs ys same = (bytes_eq-Decides xs ys).0 same

-- both tests hold
pub both : (a b : Bool) → (a && b) ≡ true → b ≡ true
both a b is = grind (arith, common_steps)

pub first-alone : (a : Bool) → (a || false) ≡ true → a ≡ true
first-alone a is = grind (arith, common_steps)

-- what stands in the second of two lists
pub stands-behind : {A : Type 0} (xs ys : List A) (n : ℕ) (y : A) → length xs ≤ n → slice_get (xs ++ ys) n ≡ Some y → slice_get ys (n - length xs) ≡ Some y
stands-behind [] ys n y le is = simp unary_clauses is
stands-behind (x ∷ xs) ys zero y le is = absurd (omega (arith, le))
stands-behind (x ∷ xs) ys (suc n) y le is = simp unary_clauses (stands-behind xs ys n y (omega (arith, le)) is)

-- what was mapped to an item
pub mapped-back : {A B : Type 0} (f : A → B) (xs : List A) (n : ℕ) (y : B) → slice_get (map f xs) n ≡ Some y → (x : A) × (slice_get xs n ≡ Some x) × (f x ≡ y)
mapped-back f [] n y is = cc
mapped-back f (x ∷ xs) zero y is = (x, refl, cc)
mapped-back f (x ∷ xs) (suc n) y is = mapped-back f xs n y is

-- what holds at each place holds of all
pub all-places : {A : Type 0} (P : A → Type 0) (xs : List A) → ((n : ℕ) (x : A) → slice_get xs n ≡ Some x → P x) → AllByRecursion P xs
all-places P [] each = tt
all-places P (x ∷ xs) each = (each 0 x refl, all-places P xs (λ n. each (suc n)))

-- an item of the second of two lists
pub behind-stands : {A : Type 0} (xs ys : List A) (n : ℕ) → slice_get (xs ++ ys) (length xs + n) ≡ slice_get ys n
behind-stands {A = A} [] ys n = let zero_is : length {A = A} [] + n ≡ n = omega arith in rw zero_is refl
behind-stands (x ∷ xs) ys n = let step : length (x ∷ xs) + n ≡ suc (length xs + n) = omega arith in rw step (behind-stands xs ys n)

-- what holds of the items of two lists
pub all-append : {A : Type 0} (P : A → Type 0) (xs ys : List A) → AllByRecursion P xs → AllByRecursion P ys → AllByRecursion P (xs ++ ys)
all-append P [] ys one two = two
all-append P (x ∷ xs) ys one two = (one.0, all-append P xs ys one.1 two)
