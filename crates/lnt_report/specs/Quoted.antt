-- Bytes as a text of JSON.
use Rattle.std.specs.{Prelude.{ℕ, ◌/◌, ◌%◌, ◌||◌, ◌==◌, false, nat_lt, List, [], ◌∷◌, ◌++◌, if◌then◌else◌}, Fmt.digit_glyph, List.flat_map}
use Rattle.json_text.specs.Bytes as byte

-- a backslash, `u00` and two hex digits
abbrev pub code_escape : ℕ → List ℕ
code_escape b = byte.backslash ∷ byte.lower_u ∷ byte.zero_digit ∷ byte.zero_digit ∷ digit_glyph false (b / 16) ∷ digit_glyph false (b % 16) ∷ []

-- a quote and a backslash stand behind a backslash, a byte below 32 by its code, and each other byte as it is
abbrev pub escape : ℕ → List ℕ
escape b =
    if (b == byte.quote) || (b == byte.backslash) then byte.backslash ∷ b ∷ []
    else if nat_lt b 32 then code_escape b else b ∷ []

-- the escaped bytes between two quotes
abbrev pub quoted : List ℕ → List ℕ
quoted content = byte.quote ∷ (flat_map escape content ++ byte.quote ∷ [])
