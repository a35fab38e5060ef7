-- The bytes of a numeral other than its digits.
use Rattle.std.specs.Prelude.{ℕ}

-- `+`
abbrev pub plus : ℕ
plus = 43

-- `-`
abbrev pub minus : ℕ
minus = 45

-- `.`
abbrev pub point : ℕ
point = 46

-- `0`
abbrev pub zero_digit : ℕ
zero_digit = 48

-- `9`
abbrev pub nine_digit : ℕ
nine_digit = 57

-- `E`
abbrev pub capital_e : ℕ
capital_e = 69

-- `e`
abbrev pub small_e : ℕ
small_e = 101
