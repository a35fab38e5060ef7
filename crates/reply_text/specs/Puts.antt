-- No public contract cites this. What is left of a text to which more is put.
use Rattle.std.specs.Prelude.{◌≡◌, ℕ, List, ◌++◌, Result, MatchResult}

-- the new text begins with the old one
pub record Begins (old new : List ℕ) : Type 0 where
  pub rest : List ℕ
  pub is : new ≡ old ++ rest

-- the text is put behind the old one, or where it isn't, the new one begins with the old one
abbrev pub Puts : {T E : Type 0} → Result T E → List ℕ → List ℕ → List ℕ → Type 0
Puts result old new text = MatchResult result (λ _. new ≡ old ++ text) (λ _. Begins old new)
