-- Lines of words, as requests and replies are written.
use Rattle.std.specs.{Prelude.{ℕ, List, [], ◌∷◌, ◌++◌}, List.flat_map}

-- words, each behind a space
abbrev pub spaced : List (List ℕ) → List ℕ
spaced words = flat_map (λ w. 32 ∷ w) words

-- a line of words with single spaces between them, and its line feed
abbrev pub line_of : List (List ℕ) → List ℕ
line_of [] = 10 ∷ []
line_of (first ∷ words) = first ++ (spaced words ++ 10 ∷ [])
