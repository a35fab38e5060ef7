-- The whole number that a numeral's value is nearest to, in units of a decimal place.
use Rattle.std.specs.Prelude.{◌≡◌, ℕ, suc, ◌+◌, ◌*◌, ◌^◌, ◌<◌, ◌≤◌, Bool, ℤ, pos, negsuc, neg_ℤ, ◌+ℤ◌, unsigned_abs, if◌then◌else◌}
use Rattle.fixed_value.specs.declared.numeral.Numeral.{Numeral}

-- the number of this magnitude, below 0 where it is negative
abbrev pub signed : Bool → ℕ → ℤ
signed negative magnitude = if negative then neg_ℤ (pos magnitude) else pos magnitude

-- the whole number nearest to m / 10^k, the larger one where two are as near: m / 10^k is from a - 1/2 on and below
-- a + 1/2
abbrev pub IsNearest : ℕ → ℕ → ℕ → Type 0
IsNearest m k a = (2 * a * 10 ^ k ≤ 2 * m + 10 ^ k) × (2 * m < (2 * a + 1) * 10 ^ k)

-- m times ten to the power, rounded where the power is below 0
abbrev pub IsMagnitude : ℕ → ℤ → ℕ → Type 0
IsMagnitude m (pos k) a = a ≡ m * 10 ^ k
IsMagnitude m (negsuc k) a = IsNearest m (suc k) a

-- the numeral's value times 10^d, rounded to the nearest whole number, halves away from zero
pub record IsScaled (numeral : Numeral) (d : ℕ) (value : ℤ) : Type 0 where
  pub magnitude : IsMagnitude numeral.digits (numeral.exponent +ℤ pos d) (unsigned_abs value)
  pub sign : value ≡ signed numeral.negative (unsigned_abs value)

-- a numeral has one scaled value
abbrev pub ScaledIsOne : Type 0
ScaledIsOne = (numeral : Numeral) (d : ℕ) (value other : ℤ) → IsScaled numeral d value → IsScaled numeral d other
    → value ≡ other

-- the numeral's scaled value is above the limit
abbrev pub IsTooLarge : Numeral → ℕ → Type 0
IsTooLarge numeral d = (value : ℤ) × IsScaled numeral d value × (10 ^ 16 < unsigned_abs value)

-- the magnitude is above the limit
abbrev pub IsMagnitudeTooLarge : ℕ → ℤ → Type 0
IsMagnitudeTooLarge m power = (a : ℕ) × IsMagnitude m power a × (10 ^ 16 < a)
