-- What tests on bytes say, and choices by tests.
use Rattle.std.proofs.{Common.{◌≡◌, ℕ, Bool, false, cond, List, ◌∷◌, ◌⊎◌, IsTrue, arith, subst, sym, ◌==◌}, lemmas.Grind.common_steps}
use Rattle.std.proofs.lemmas.Bool.Decides.{nat_tests}

-- what holds of the first choice holds of the choice, where the test is true
pub when : {A : Type 0} (P : A → Type 0) (test : Bool) (x y : A) → IsTrue test → P x → P (cond test x y)
when P test x y h p = grind (arith, common_steps)

pub unless : {A : Type 0} (P : A → Type 0) (test : Bool) (x y : A) → test ≡ false → P y → P (cond test x y)
unless P test x y h p = grind (arith, common_steps)

-- lists with one front
pub head_same : {x y : ℕ} {xs ys : List ℕ} → x ∷ xs ≡ y ∷ ys → x ≡ y
head_same e = cc

pub tail_same : {x y : ℕ} {xs ys : List ℕ} → x ∷ xs ≡ y ∷ ys → xs ≡ ys
tail_same e = cc

-- what holds of a list holds of the same list, written otherwise
pub along : (P : ℕ → List ℕ → Type 0) {x y : ℕ} {xs ys : List ℕ} → x ∷ xs ≡ y ∷ ys → P y ys → P x xs
along P {x} {y} {xs} {ys} e p = let first = subst (λ n. P n ys) (sym (head_same e)) p in subst (λ zs. P x zs) (sym (tail_same e)) first

pub not_equal : (b c : ℕ) → (b ≡ c → ⊥) → (b == c) ≡ false
not_equal b c h = grind (arith, nat_tests)

-- which way a choice went
pub chosen : {A : Type 0} (P : A → Type 0) (test : Bool) (x y : A) → P (cond test x y) → (IsTrue test × P x) ⊎ ((test ≡ false) × P y)
chosen P test x y p = grind (arith, common_steps)

pub equal : (b c : ℕ) → IsTrue (b == c) → b ≡ c
equal b c h = grind (arith, nat_tests)
