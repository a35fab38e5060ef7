-- What a word that is found, or none, says of a line.
use Rattle.std.{proofs.Common.{◌≡◌, ℕ, inl, inr, List, Bool, true, not, arith}, specs.Prelude.Contains, proofs.lemmas.Grind.common_steps}
use Rattle.line_pieces.specs.declared.stop.Refusal.{Refusal}
use Rattle.commit_lines.specs.{Lines.{IsSkipped, IsNameLine, IsGood}, Reading.Breaks, HasRead.RefusesName}

-- a test for none
pub not_none : (b found : Bool) → found ≡ not b → (found ≡ true → ⊥) → b ≡ true
not_none b found tells never = grind (arith, common_steps)

-- why a line that says a name is refused
pub breaks : (names : List (List ℕ)) (line name : List ℕ) (why : Refusal) → IsNameLine line name → RefusesName name names why → Breaks why names line
breaks names line name why is has = grind (arith, common_steps)

-- a line that is neither skipped nor says a name is not good
pub neither : (names : List (List ℕ)) (line : List ℕ) → ¬ IsSkipped line → ((name : List ℕ) → ¬ IsNameLine line name) → ¬ IsGood names line
neither names line other never (inl skipped) = other skipped
neither names line other never (inr (name, says, fresh)) = never name says

-- a line that says a name is good where the name is new
pub new_is_good : (names : List (List ℕ)) (line name : List ℕ) (found : Bool) → IsNameLine line name → (found ≡ true → Contains names name) → (Contains names name → found ≡ true)
    → (not found ≡ true → IsGood names line) × (IsGood names line → not found ≡ true)
new_is_good names line name found says has is = grind (arith, common_steps)
