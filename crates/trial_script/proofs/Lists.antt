-- Plain lists: what is found in them, and how long they are.
use Rattle.std.proofs.Common.{◌≡◌, ◌≢◌, ℕ, suc, ◌<◌, ◌≤◌, Bool, true, false, List, [], ◌∷◌, ◌++◌, length, filter, refl, ◌∙◌, subst, arith, Option, Some, None}
use Rattle.std.{specs.Prelude.{find, nat_lt, if◌then◌else◌, bytes_eq}, specs.List.AllByRecursion, specs.Option.option_or, proofs.lemmas.Bool.Decides.nat_tests}
use Rattle.std.proofs.lemmas.{List.Folds.find-append, Slice.Eq.bytes_eq-Decides, Fmt.decimal_injective}
use Rattle.std.specs.Prelude.{decimal, ◌^◌}

-- ---- below a number
pub below_suc : (P : ℕ → Type 0) (n : ℕ) → ((i : ℕ) → i < n → P i) → P n → (i : ℕ) → i < suc n → P i
below_suc P n below here i less = at (nat_lt i n) refl
  where
    at : (b : Bool) → nat_lt i n ≡ b → P i
    at true e = below i (let is : i < n = grind (arith, nat_tests) in is)
    at false e = let is : n ≡ i = grind (arith, nat_tests) in subst P is here

-- ---- all of some items
pub all_more : {A : Type 0} (P : A → Type 0) (xs ys : List A) → AllByRecursion P xs → AllByRecursion P ys → AllByRecursion P (xs ++ ys)
all_more P [] ys all others = others
all_more P (x ∷ xs) ys all others = (all.0, all_more P xs ys all.1 others)

pub all_of : {A : Type 0} (P Q : A → Type 0) → ((x : A) → P x → Q x) → (xs : List A) → AllByRecursion P xs → AllByRecursion Q xs
all_of P Q leads [] all = tt
all_of P Q leads (x ∷ xs) all = (leads x all.0, all_of P Q leads xs all.1)

-- ---- the first that passes a test
abbrev pub Found : {A : Type 0} → (A → Bool) → List A → Type 0
Found {A = A} p xs = (x : A) × (find p xs ≡ Some x)

pub find_none : {A : Type 0} (p : A → Bool) (P : A → Type 0) → ((x : A) → P x → p x ≡ false) → (xs : List A) → AllByRecursion P xs → find p xs ≡ None
find_none p P fails [] all = refl
find_none p P fails (x ∷ xs) all = rw (fails x all.0) (find_none p P fails xs all.1)

some_first : {A : Type 0} (o other : Option A) (x : A) → o ≡ Some x → option_or o other ≡ Some x
some_first o other x is = rw is refl

pub find_more : {A : Type 0} (p : A → Bool) (xs ys : List A) → Found p xs → Found p (xs ++ ys)
find_more p xs ys found = (found.0, find-append p xs ys ∙ some_first (find p xs) (find p ys) found.0 found.1)

pub find_last : {A : Type 0} (p : A → Bool) (xs : List A) (y : A) → p y ≡ true → Found p (xs ++ y ∷ [])
find_last {A = A} p xs y is = either (find p xs) refl
  where
    last : find p (y ∷ []) ≡ Some y
    last = rw is refl

    either : (o : Option A) → find p xs ≡ o → Found p (xs ++ y ∷ [])
    either None none = (y, find-append p xs (y ∷ []) ∙ rw (none, last) refl)
    either (Some x) some = find_more p xs (y ∷ []) (x, some)

-- ---- names
pub same_name : (name : List ℕ) → bytes_eq name name ≡ true
same_name name = (bytes_eq-Decides name name).1 refl

pub other_name : (letter a b : ℕ) → a < 2 ^ 64 → b < 2 ^ 64 → a ≢ b → bytes_eq (letter ∷ decimal a) (letter ∷ decimal b) ≡ false
other_name letter a b small less differ = at (bytes_eq (letter ∷ decimal a) (letter ∷ decimal b)) refl
  where
    at : (t : Bool) → bytes_eq (letter ∷ decimal a) (letter ∷ decimal b) ≡ t → t ≡ false
    at false e = refl
    at true e =
        let words : letter ∷ decimal a ≡ letter ∷ decimal b = (bytes_eq-Decides (letter ∷ decimal a) (letter ∷ decimal b)).0 e in
        let same : decimal a ≡ decimal b = cc in
        absurd (differ (decimal_injective a b small less same))

-- ---- lengths
pub filter_few : {A : Type 0} (p : A → Bool) (xs : List A) → length (filter p xs) ≤ length xs
filter_few p [] = omega arith
filter_few {A = A} p (x ∷ xs) = step (p x) (filter_few p xs)
  where
    step : (b : Bool) → length (filter p xs) ≤ length xs → length (if b then x ∷ filter p xs else filter p xs) ≤ suc (length xs)
    step true few = omega (arith, few)
    step false few = omega (arith, few)
