-- Texts that are, or aren't, among others.
use Rattle.std.proofs.Common.{◌≡◌, ◌≢◌, ◌==◌, ◌↔◌, ℕ, zero, suc, ◌<◌, List, ◌∷◌, length, get_or, false, sym, ◌∙◌, arith}
use Rattle.std.{specs.Prelude.{AllPairs, Contains, IsTrue, Bool, All}, proofs.lemmas.List.get_or_default, proofs.lemmas.List.Elements.{All-tail, All-cons}}

pub found_first : (x y : List ℕ) (xs : List (List ℕ)) → x ≡ y → Contains (x ∷ xs) y
found_first x y xs same = (0, omega arith, same)

behind : (x y : List ℕ) (xs : List (List ℕ)) → (x ≡ y → ⊥) → (k : ℕ) → k < length (x ∷ xs) → get_or (x ∷ xs) k y ≡ y → Contains xs y
behind x y xs differs zero below at = absurd (differs at)
behind x y xs differs (suc k) below at = (k, omega (arith, below), at)

pub found_behind : (x y : List ℕ) (xs : List (List ℕ)) → (x ≡ y → ⊥) → (b : Bool) → IsTrue b ↔ Contains xs y → IsTrue b ↔ Contains (x ∷ xs) y
found_behind x y xs differs b is = (
  (λ yes. let at = is.0 yes in (suc at.0, omega (arith, at.1), at.2)),
  (λ has. is.1 (behind x y xs differs has.0 has.1 has.2)),
)

-- one that comes again is not apart
pub comes_again : (x : List ℕ) (xs : List (List ℕ)) → Contains xs x → AllPairs ◌≢◌ (x ∷ xs) → ⊥
comes_again x xs has all = all 0 (suc has.0) x (omega arith) (omega (arith, has.1)) (sym has.2)

pairs_cons : (x : List ℕ) (xs : List (List ℕ)) → ¬ Contains xs x → AllPairs ◌≢◌ xs → AllPairs ◌≢◌ (x ∷ xs)
pairs_cons x xs none all zero zero d before below same = absurd (omega (arith, before))
pairs_cons x xs none all zero (suc j) d before below same =
    none (j, omega (arith, below), get_or_default xs j x d (omega (arith, below)) ∙ sym same)
pairs_cons x xs none all (suc i) zero d before below same = absurd (omega (arith, before))
pairs_cons x xs none all (suc i) (suc j) d before below same = all i j d (omega (arith, before)) (omega (arith, below)) same

pairs_tail : (x : List ℕ) (xs : List (List ℕ)) → AllPairs ◌≢◌ (x ∷ xs) → AllPairs ◌≢◌ xs
pairs_tail x xs all i j d before below = all (suc i) (suc j) d (omega (arith, before)) (omega (arith, below))

pub apart_behind : (x : List ℕ) (xs : List (List ℕ)) → ¬ Contains xs x → (b : Bool) → IsTrue b ↔ AllPairs ◌≢◌ xs → IsTrue b ↔ AllPairs ◌≢◌ (x ∷ xs)
apart_behind x xs none b is = ((λ yes. pairs_cons x xs none (is.0 yes)), (λ all. is.1 (pairs_tail x xs all)))

-- a fact of each, by that of the first
pub each_behind : (P : List ℕ → Type 0) (x : List ℕ) (xs : List (List ℕ)) → P x → (b : Bool) → IsTrue b ↔ All P xs → IsTrue b ↔ All P (x ∷ xs)
each_behind P x xs first b is = ((λ yes. All-cons P x xs first (is.0 yes)), (λ all. is.1 (All-tail P x xs all)))

-- what isn't none is some
pub positive : (n : ℕ) → false ≡ (n == 0) → 0 < n
positive zero none = absurd (cc)
positive (suc n) none = omega arith
