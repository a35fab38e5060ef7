-- No public contract cites this. Where a field ends.
use Rattle.std.specs.{Prelude.{◌≡◌, ℕ, ◌<◌, Bool, true, false, List, [], ◌∷◌}, Char.is_whitespace}

-- nothing, or white space first
abbrev pub is_stopped : List ℕ → Bool
is_stopped [] = true
is_stopped (c ∷ cs) = is_whitespace c

-- an ASCII character other than white space
abbrev pub IsBlackByte : ℕ → Type 0
IsBlackByte b = (b < 128) × (is_whitespace b ≡ false)

-- an ASCII character that is white space
abbrev pub IsWhiteByte : ℕ → Type 0
IsWhiteByte b = (b < 128) × (is_whitespace b ≡ true)
