-- What a line's kind says of it, and how a line that is longer than a line may be is skipped.
-- No public contract cites this.
use Rattle.std.specs.{Prelude.{◌≡◌, ◌≢◌, ℕ, ℤ, ◌<◌, ◌⊎◌, List, [], ◌∷◌, ◌++◌, decimal, slice_index}, Fmt.signed_decimal}
use Rattle.line_text.specs.Lines.{words_of}
use Rattle.cut_lines.specs.declared.cut_line.LineKind.{LineKind, TheVariants.{Skipped, Cut, Bad}}
use Rattle.cut_lines.specs.Lines.{IsSkipped, IsCutLine, IsGood}

-- what a line of this kind says
abbrev pub IsKind : List ℕ → LineKind → Type 0
IsKind line Skipped = IsSkipped line
IsKind line (Cut order value) = IsCutLine line order value
IsKind line Bad = ¬ IsGood line

-- why a line that is longer than a line may be is skipped: its first byte is #, or no word comes in
-- its first bytes, as many of them as are new, nor in the bytes behind them
abbrev pub StaysSkipped : List ℕ → ℕ → List ℕ → Type 0
StaysSkipped line room behind =
    (slice_index line 0 ≡ 35)
    ⊎ ((slice_index line 0 ≢ 35) × (0 < room → words_of line ≡ []) × (words_of behind ≡ []))

-- its first byte is no #, and there is a word
abbrev pub HasWord : List ℕ → List ℕ → Type 0
HasWord line behind = (slice_index line 0 ≢ 35) × ((words_of line ≢ []) ⊎ (words_of behind ≢ []))

-- its words are these two numbers
abbrev pub AreNumbers : List ℕ → ℕ → ℤ → Type 0
AreNumbers line order value = words_of line ≡ decimal order ∷ signed_decimal value ∷ []

-- no bytes that go on with it make it good
abbrev pub NeverGood : List ℕ → Type 0
NeverGood line = (more : List ℕ) → ¬ IsGood (line ++ more)
