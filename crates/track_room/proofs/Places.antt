-- Lists that are changed place by place.
use Rattle.std.proofs.Common.{◌≡◌, ℕ, zero, suc, ◌+◌, ◌-◌, ◌<◌, ◌≤◌, List, [], ◌∷◌, ◌++◌, length, map, take, drop, set, get_or, refl, sym, ap, subst, ◌∙◌, arith}
use Rattle.std.{specs.List.{AllByRecursion, AllZip}, proofs.lemmas.Grind.common_steps, proofs.lemmas.List.get_or-map}

-- what stands at a place up to which a list was changed
pub not-yet : {A : Type 0} (f : A → A) (xs ys : List A) (i : ℕ) (x : A) → i < length xs → ys ≡ map f (take i xs) ++ drop i xs → x ≡ get_or ys i x → x ≡ get_or xs i x
not-yet f xs ys i x in' is read = grind (arith, common_steps)

all-push : {A : Type 0} (P : A → Type 0) (xs : List A) (x : A) → AllByRecursion P xs → P x → AllByRecursion P (xs ++ x ∷ [])
all-push P [] x all more = (more, tt)
all-push P (y ∷ ys) x all more = (all.0, all-push P ys x all.1 more)

-- what holds up to a place holds up to the next
pub all-more : {A : Type 0} (P : A → Type 0) (xs : List A) (i : ℕ) (x : A) → i < length xs → x ≡ get_or xs i x → AllByRecursion P (take i xs) → P x
    → AllByRecursion P (take (i + 1) xs)
all-more P xs i x in' is all more = grind (arith, common_steps)

map-same : {A : Type 0} (xs : List A) → map (λ (x : A). x) xs ≡ xs
map-same [] = refl
map-same (x ∷ xs) = ap (λ ys. x ∷ ys) (map-same xs)

-- what an iterator gave in all
pub all-given : {A : Type 0} (xs ys : List A) → map (λ (x : A). x) xs ≡ ys → xs ≡ ys
all-given xs ys is = sym (map-same xs) ∙ is

-- each place below n is joined with what was given for it, and the others stay
module _ {A : Type 0} (J : A → A → A → Type 0) (old now given : List A) (i : ℕ) (q o : A) (at : i ≡ length given) where
  pub joined-more : (p : A) → i < length now → p ≡ get_or now i p → J p o q
      → ((k : ℕ) (a : A) → k < length given → J (get_or old k a) (get_or given k a) (get_or now k a))
      → ((k : ℕ) (a : A) → length given ≤ k → get_or now k a ≡ get_or old k a)
      → (k : ℕ) (a : A) → k < length (given ++ o ∷ []) → J (get_or old k a) (get_or (given ++ o ∷ []) k a) (get_or (set now i q) k a)
  joined-more p in' read joins before rest k a below = grind (arith, common_steps)

  pub rest-stays : ((k : ℕ) (a : A) → length given ≤ k → get_or now k a ≡ get_or old k a)
      → (k : ℕ) (a : A) → length (given ++ o ∷ []) ≤ k → get_or (set now i q) k a ≡ get_or old k a
  rest-stays rest k a past = grind (arith, common_steps)

pub zip-push : {A B : Type 0} (R : A → B → Type 0) (xs : List A) (ys : List B) (x : A) (y : B) → AllZip R xs ys → R x y → AllZip R (xs ++ x ∷ []) (ys ++ y ∷ [])
zip-push R [] [] x y all more = (more, tt)
zip-push R [] (z ∷ ys) x y all more = absurd all
zip-push R (w ∷ xs) [] x y all more = absurd all
zip-push R (w ∷ xs) (z ∷ ys) x y all more = (all.0, zip-push R xs ys x y all.1 more)

pub zip-long : {A B : Type 0} (R : A → B → Type 0) (xs : List A) (ys : List B) → AllZip R xs ys → length ys ≡ length xs
zip-long R [] [] all = refl
zip-long R [] (z ∷ ys) all = absurd all
zip-long R (w ∷ xs) [] all = absurd all
zip-long R (w ∷ xs) (z ∷ ys) all = ap suc (zip-long R xs ys all.1)

-- the next item stands for the next of what another list's items stand for
pub next-is : {A B : Type 0} (f : A → B) (xs given : List A) (all rest more : List B) (x : A) (b : B) → map f xs ≡ all → map f given ++ rest ≡ all → rest ≡ b ∷ more
    → length given < length xs → x ≡ get_or xs (length given) x → f x ≡ b
next-is f xs given all rest more x b made so-far next below at =
    let n : ℕ = length given in
    let here : get_or (map f xs) n b ≡ f x = get_or-map f xs n x b below ∙ ap f (sym at) in
    let there : get_or (map f given ++ rest) n b ≡ b = grind (arith, common_steps) in
    sym here ∙ ap (λ (ys : List _). get_or ys n b) (made ∙ sym so-far) ∙ there

pub all-at : {A : Type 0} (P : A → Type 0) (xs : List A) (n : ℕ) (x : A) → AllByRecursion P xs → n < length xs → x ≡ get_or xs n x → P x
all-at P [] n x all below at = absurd (omega (arith, below))
all-at P (y ∷ xs) zero x all below at = subst P (sym at) all.0
all-at P (y ∷ xs) (suc n) x all below at = all-at P xs n x all.1 (omega (arith, below)) at

pub moved-on : {A B : Type 0} (f : A → B) (given : List A) (all rest more : List B) (x : A) (b : B) → map f given ++ rest ≡ all → rest ≡ b ∷ more → f x ≡ b
    → map f (given ++ x ∷ []) ++ more ≡ all
moved-on f given all rest more x b so-far next is = grind (arith, common_steps)
