-- The text of a scaled value, and the numeral that it is.
use Rattle.std.specs.Prelude.{ℕ, zero, suc, ◌+◌, ◌/◌, ◌%◌, ◌^◌, ◌≤◌, List, [], ◌∷◌, ◌++◌, All, ℤ, pos, negsuc, decimal, unsigned_abs}
use Rattle.fixed_value.specs.{declared.numeral.Numeral.Numeral, Numerals.IsNumeralText, Scaled.IsScaled}
use Rattle.fixed_value.specs.Bytes as byte

-- the digits of n at the places below d, the highest first
abbrev pub low_digits : ℕ → ℕ → List ℕ
low_digits zero n = []
low_digits (suc d) n = (byte.zero_digit + n / 10 ^ d % 10) ∷ low_digits d n

-- a point and d digits, if d isn't 0
abbrev pub fraction_text : ℕ → ℕ → List ℕ
fraction_text zero n = []
fraction_text (suc d) n = byte.point ∷ low_digits (suc d) n

-- the whole part of n / 10^d, and the rest
abbrev pub magnitude_text : ℕ → ℕ → List ℕ
magnitude_text n d = decimal (n / 10 ^ d) ++ fraction_text d n

-- the text of value / 10^d with d decimals
abbrev pub fixed_text : ℤ → ℕ → List ℕ
fixed_text (pos n) d = magnitude_text n d
fixed_text (negsuc n) d = byte.minus ∷ magnitude_text (suc n) d

-- a minus, a point or a digit (or `/`, which lies between them)
abbrev pub IsFixedByte : ℕ → Type 0
IsFixedByte b = (byte.minus ≤ b) × (b ≤ byte.nine_digit)

-- the text is a numeral's whose scaled value is the value
pub record IsReadBack (value : ℤ) (d : ℕ) : Type 0 where
  pub numeral : Numeral
  pub reads : IsNumeralText (fixed_text value d) numeral
  pub scales : IsScaled numeral d value
  pub bytes : All IsFixedByte (fixed_text value d)

-- whatever the value within the limit, with at most nine decimals
abbrev pub FixedIsReadBack : Type 0
FixedIsReadBack = (value : ℤ) (d : ℕ) → unsigned_abs value ≤ 10 ^ 16 → d ≤ 9 → IsReadBack value d
