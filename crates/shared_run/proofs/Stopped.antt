-- Items that are, or aren't, in a list.
use Rattle.std.proofs.lemmas.Grind.{common_steps}
use Rattle.std.{proofs.Common.{◌≡◌, ◌↔◌, ℕ, suc, ◌<◌, Bool, List, ◌∷◌, length, get_or, arith}, specs.Prelude.{Contains, IsTrue}}

module _ {X : Type 0} where
  pub found_first : (x y : X) (xs : List X) → x ≡ y → Contains (x ∷ xs) y
  found_first x y xs same = (0, omega arith, same)

  behind : (x y : X) (xs : List X) → (x ≡ y → ⊥) → (k : ℕ) → k < length (x ∷ xs) → get_or (x ∷ xs) k y ≡ y → Contains xs y
  behind x y xs differs k below x6 = grind (arith, common_steps)

  pub found_behind : (x y : X) (xs : List X) → (x ≡ y → ⊥) → (b : Bool) → IsTrue b ↔ Contains xs y → IsTrue b ↔ Contains (x ∷ xs) y
  found_behind x y xs differs b is = (
    (λ yes. let at = is.0 yes in (suc at.0, omega (arith, at.1), at.2)),
    (λ has. is.1 (behind x y xs differs has.0 has.1 has.2)),
  )
