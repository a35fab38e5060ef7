-- A number that may be given: what its words say of it.
use Rattle.std.{proofs.Common.{◌≢◌, ℕ, ◌^◌, ◌<◌, List, [], ◌∷◌, map, decimal, Option, arith}, specs.Prelude.{IfSome, option_to_list}}
use Rattle.std.{specs.List.AllByRecursion, proofs.lemmas.Grind.common_steps}

pub all-given : (given : Option ℕ) → AllByRecursion (λ n. n < 2 ^ 64) (option_to_list given) → IfSome given (λ n. n < 2 ^ 64)
all-given given all = grind (arith, common_steps)

-- words that are some, and no one number, are not those of a number that may be given
pub neither : (words : List (List ℕ)) (given : Option ℕ) → words ≢ [] → ((n : ℕ) → n < 2 ^ 64 → words ≢ decimal n ∷ []) → IfSome given (λ n. n < 2 ^ 64)
    → words ≢ map decimal (option_to_list given)
neither words given over number fits same = grind (arith, common_steps)
