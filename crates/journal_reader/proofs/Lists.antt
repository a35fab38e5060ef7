-- Private: no public contract cites this. Plain lists with one item more.
use Rattle.std.{proofs.Common.{◌≡◌, ℕ, zero, suc, ◌≤◌, ◌<◌, List, [], ◌∷◌, ◌++◌, length, take, map, refl, ap, ap₂, subst, arith, Some}, specs.Prelude.slice_get}
use Rattle.std.specs.List.{AllByRecursion}

-- equal lists have the same last item, and the same before it
pub same_ends : {A : Type 0} (xs ys : List A) (x y : A) → xs ++ x ∷ [] ≡ ys ++ y ∷ [] → (xs ≡ ys) × (x ≡ y)
same_ends [] [] x y e = (refl, cc)
same_ends [] (z ∷ []) x y e = absurd (omega (arith, ap length e))
same_ends [] (z ∷ w ∷ ys) x y e = absurd (omega (arith, ap length e))
same_ends (z ∷ []) [] x y e = absurd (omega (arith, ap length e))
same_ends (z ∷ w ∷ xs) [] x y e = absurd (omega (arith, ap length e))
same_ends {A = A} (z ∷ xs) (w ∷ ys) x y e =
    let one : z ≡ w = cc in
    let rest : xs ++ x ∷ [] ≡ ys ++ y ∷ [] = cc in
    let both : (xs ≡ ys) × (x ≡ y) = same_ends xs ys x y rest in
    (ap₂ (λ (a : A) (l : List A). a ∷ l) one both.0, both.1)

pub parts_at : {A : Type 0} (xs : List A) (n : ℕ) (x : A) → slice_get xs n ≡ Some x → (ys : List A) × (xs ≡ take n xs ++ x ∷ ys)
parts_at [] n x is = absurd (cc)
parts_at (z ∷ xs) zero x is = let same : z ≡ x = cc in (xs, ap (λ a. a ∷ xs) same)
parts_at {A = A} (z ∷ xs) (suc n) x is =
    let rest = parts_at xs n x is in
    (rest.0, ap (λ (l : List A). z ∷ l) rest.1)

pub some_at : {A : Type 0} (xs : List A) (n : ℕ) → n < length xs → (x : A) × (slice_get xs n ≡ Some x)
some_at [] n within = absurd (omega (arith, within))
some_at (z ∷ xs) zero within = (z, refl)
some_at (z ∷ xs) (suc n) within = some_at xs n (omega (arith, within))

pub map_take : {A B : Type 0} (f : A → B) (xs : List A) (n : ℕ) → map f (take n xs) ≡ take n (map f xs)
map_take f [] zero = refl
map_take f [] (suc n) = refl
map_take f (x ∷ xs) zero = refl
map_take {B = B} f (x ∷ xs) (suc n) = ap (λ (l : List B). f x ∷ l) (map_take f xs n)

pub map_at : {A B : Type 0} (f : A → B) (xs : List A) (n : ℕ) (x : A) → slice_get xs n ≡ Some x → slice_get (map f xs) n ≡ Some (f x)
map_at f [] n x is = absurd (cc)
map_at f (z ∷ xs) zero x is = let same : z ≡ x = cc in ap (λ a. Some (f a)) same
map_at f (z ∷ xs) (suc n) x is = map_at f xs n x is

pub all_take : {A : Type 0} (P : A → Type 0) (xs : List A) (n : ℕ) → AllByRecursion P xs → AllByRecursion P (take n xs)
all_take P [] zero each = tt
all_take P [] (suc n) each = tt
all_take P (x ∷ xs) zero each = tt
all_take P (x ∷ xs) (suc n) each = (each.0, all_take P xs n each.1)

pub all_at : {A : Type 0} (P : A → Type 0) (xs : List A) (n : ℕ) (x : A) → AllByRecursion P xs → slice_get xs n ≡ Some x → P x
all_at P [] n x each is = absurd (cc)
all_at P (z ∷ xs) zero x each is = let same : z ≡ x = cc in subst P same each.0
all_at P (z ∷ xs) (suc n) x each is = all_at P xs n x each.1 is

pub take_size : {A : Type 0} (xs : List A) (n : ℕ) → n ≤ length xs → length (take n xs) ≡ n
take_size [] zero within = refl
take_size [] (suc n) within = absurd (omega (arith, within))
take_size (x ∷ xs) zero within = refl
take_size (x ∷ xs) (suc n) within = ap suc (take_size xs n (omega (arith, within)))

pub take_all : {A : Type 0} (xs : List A) (n : ℕ) → length xs ≡ n → take n xs ≡ xs
take_all [] zero e = refl
take_all [] (suc n) e = refl
take_all (x ∷ xs) zero e = absurd (omega (arith, e))
take_all {A = A} (x ∷ xs) (suc n) e = ap (λ (l : List A). x ∷ l) (take_all xs n (omega (arith, e)))
