-- Which texts are numerals, and what numeral a text is.
use Rattle.std.specs.{Prelude.{◌≡◌, ℕ, ◌+◌, ◌≤◌, Bool, true, false, ◌⊎◌, List, [], ◌∷◌, ◌++◌, length, ℤ, pos, ◌-ℤ◌}, Str.Parse.{IsNumeral, digits_value}}
use Rattle.fixed_value.specs.{declared.numeral.Numeral.Numeral, Scaled.signed}
use Rattle.fixed_value.specs.Bytes as byte

-- decimal digits, one or more
abbrev pub AreDigits : List ℕ → Type 0
AreDigits text = IsNumeral 10 text

-- nothing, `+` or `-`
pub data IsSign (text : List ℕ) (negative : Bool) : Type 0 where
  no_sign : text ≡ [] → negative ≡ false → IsSign text negative
  plus : text ≡ byte.plus ∷ [] → negative ≡ false → IsSign text negative
  minus : text ≡ byte.minus ∷ [] → negative ≡ true → IsSign text negative

-- a sign and digits, and the whole number that they spell
pub record IsPower (text : List ℕ) (power : ℤ) : Type 0 where
  pub sign : List ℕ
  pub digits : List ℕ
  pub negative : Bool
  pub joined : text ≡ sign ++ digits
  pub sign_is : IsSign sign negative
  pub digits_are : AreDigits digits
  pub value : power ≡ signed negative (digits_value 10 digits)

-- `E` or `e`
abbrev pub IsExponentLetter : ℕ → Type 0
IsExponentLetter letter = (letter ≡ byte.capital_e) ⊎ (letter ≡ byte.small_e)

-- nothing, or `E` or `e` and a power
pub data IsExponent (text : List ℕ) (power : ℤ) : Type 0 where
  no_mark : text ≡ [] → power ≡ pos 0 → IsExponent text power
  mark : (letter : ℕ) (rest : List ℕ) → text ≡ letter ∷ rest → IsExponentLetter letter → IsPower rest power
      → IsExponent text power

-- nothing, or a point and digits
pub data IsFraction (text digits : List ℕ) : Type 0 where
  no_point : text ≡ [] → digits ≡ [] → IsFraction text digits
  point : text ≡ byte.point ∷ digits → AreDigits digits → IsFraction text digits

-- a fraction and an exponent, which follow the whole digits
pub record IsTail (text fraction : List ℕ) (power : ℤ) : Type 0 where
  pub point : List ℕ
  pub exponent : List ℕ
  pub joined : text ≡ point ++ exponent
  pub point_is : IsFraction point fraction
  pub exponent_is : IsExponent exponent power

-- the text is this numeral's: a sign, whole digits, a fraction and an exponent, of at most 40 bytes in all, with at
-- most 38 digits before the exponent
pub record IsNumeralText (text : List ℕ) (numeral : Numeral) : Type 0 where
  pub sign : List ℕ
  pub whole : List ℕ
  pub fraction : List ℕ
  pub tail : List ℕ
  pub power : ℤ
  pub joined : text ≡ sign ++ (whole ++ tail)
  pub sign_is : IsSign sign numeral.negative
  pub whole_is : AreDigits whole
  pub tail_is : IsTail tail fraction power
  pub digits : numeral.digits ≡ digits_value 10 (whole ++ fraction)
  pub exponent : numeral.exponent ≡ power -ℤ pos (length fraction)
  pub short : length text ≤ 40
  pub few : length whole + length fraction ≤ 38

-- the text is some numeral's
abbrev pub HasNumeral : List ℕ → Type 0
HasNumeral text = (numeral : Numeral) × IsNumeralText text numeral

-- a text is one numeral's at most
abbrev pub NumeralIsOne : Type 0
NumeralIsOne = (text : List ℕ) (one other : Numeral) → IsNumeralText text one → IsNumeralText text other → one ≡ other
