-- Powers of ten, and values that are nearest to a numeral's.
use Rattle.std.proofs.Common.{◌≡◌, ℕ, zero, suc, ◌+◌, ◌*◌, ◌/◌, ◌%◌, ◌^◌, ◌<◌, ◌≤◌, Bool, true, false, ℤ, pos, negsuc, ◌+ℤ◌, ◌<ℤ◌, ◌≤ℤ◌, refl, arith, Result}
use Rattle.std.{specs.Prelude.{unsigned_abs, OnErr}, proofs.Math.Nat.{pow-le-pow_right, one-le-pow, le-mul_of_pos_right}}
use Rattle.std.{specs.Prelude.int_lt, proofs.lemmas.Int.ints, proofs.lemmas.Nat.{div-add-mod', mod_below}, proofs.lemmas.Grind.common_steps}
use Rattle.fixed_value.specs.{declared.numeral.Numeral.Numeral, Scaled.{signed, IsNearest, IsMagnitude, IsScaled, ScaledIsOne}}

pub ten_some : (k : ℕ) → 0 < 10 ^ k
ten_some k = one-le-pow k 10 (omega arith)

pub ten_grows : (j k : ℕ) → j ≤ k → 10 ^ j ≤ 10 ^ k
ten_grows j k le = pow-le-pow_right (omega arith) le

pub ten_fits : (k : ℕ) → k ≤ 38 → 10 ^ k < 2 ^ 128
ten_fits k le = omega (arith, ten_grows k 38 le)

-- ---- too large, or too small

pub above_largest : (m k : ℕ) → 0 < m → 16 < k → 10 ^ 16 < m * 10 ^ k
above_largest m k some high =
    let power : 10 ^ 17 ≤ 10 ^ k = ten_grows 17 k high in
    let at_least : 10 ^ k ≤ m * 10 ^ k = row m (10 ^ k) some in
    omega arith
  where
    row : (m p : ℕ) → 0 < m → p ≤ m * p
    row zero p some = absurd (omega arith)
    row (suc m) p some = omega arith

pub above_by_digits : (m k : ℕ) → 10 ^ 16 < m → 10 ^ 16 < m * 10 ^ k
above_by_digits m k above = omega (arith, le-mul_of_pos_right m (ten_some k))

pub below_half : (m k : ℕ) → m < 2 ^ 128 → 38 < k → IsNearest m k 0
below_half m k small low =
    let power : 10 ^ 39 ≤ 10 ^ k = ten_grows 39 k low in
    (omega arith, omega arith)

pub magnitude_of_zero : (power : ℤ) → IsMagnitude 0 power 0
magnitude_of_zero power = grind (arith, common_steps, ten_some)

pub magnitude_above : (m : ℕ) (power : ℤ) → 0 < m → pos 16 <ℤ power → (a : ℕ) × IsMagnitude m power a × (10 ^ 16 < a)
magnitude_above m (pos k) some high = (m * 10 ^ k, refl, above_largest m k some (omega (arith, ints, high)))
magnitude_above m (negsuc k) some high = absurd (omega (arith, ints, high))

-- ---- rounding

pub nearest_above : (m k q r : ℕ) → q * 10 ^ k + r ≡ m → r < 10 ^ k → 10 ^ k ≤ 2 * r → IsNearest m k (q + 1)
nearest_above m k q r is less half = (omega arith, omega arith)

-- the same, with the quotient and the rest
pub rounded_down : (m k unit : ℕ) → unit ≡ 10 ^ k → 2 * (m % unit) < unit → IsNearest m k (m / unit)
rounded_down m k unit is half = grind (arith, common_steps)

pub rounded_up : (m k unit : ℕ) → unit ≡ 10 ^ k → unit ≤ 2 * (m % unit) → IsNearest m k (m / unit + 1)
rounded_up m k unit is half = grind (arith, common_steps, nearest_above, div-add-mod', mod_below, ten_some)

pub rest_fits : (m k unit : ℕ) → unit ≡ 10 ^ k → k ≤ 38 → 2 * (m % unit) < 2 ^ 128
rest_fits m k unit is le = grind (arith, common_steps, mod_below, ten_some, ten_grows)

pub at_high_power : (m : ℕ) (power : ℤ) (a : ℕ) → pos 0 ≤ℤ power → a ≡ m * 10 ^ unsigned_abs power → IsMagnitude m power a
at_high_power m power a high is = grind (arith, common_steps)

pub high_power_above : (m : ℕ) (power : ℤ) → pos 0 ≤ℤ power → 10 ^ 16 < m * 10 ^ unsigned_abs power → (a : ℕ) × IsMagnitude m power a × (10 ^ 16 < a)
high_power_above m power high above = (m * 10 ^ unsigned_abs power, at_high_power m power (m * 10 ^ unsigned_abs power) high refl, above)

pub told_below : (a b : ℤ) → int_lt a b ≡ true → a <ℤ b
told_below a b told = grind (arith, ints)

pub told_not_below : (a b : ℤ) → int_lt a b ≡ false → b ≤ℤ a
told_not_below a b told = grind (arith, ints)

pub on_err : {T E P : Type 0} (r : Result T E) → P → OnErr r P
on_err r p = grind (arith, common_steps)

-- ---- one magnitude, and one value

one_magnitude : (m : ℕ) (power : ℤ) (a b : ℕ) → IsMagnitude m power a → IsMagnitude m power b → a ≡ b
one_magnitude m power a b first second = grind (arith, common_steps)

pub one_scaled : ScaledIsOne
one_scaled numeral d value other is is' = grind (arith, common_steps, one_magnitude, pos, unsigned_abs)

-- ---- the sign

pub abs-signed : (negative : Bool) (a : ℕ) → unsigned_abs (signed negative a) ≡ a
abs-signed negative a = grind (arith, common_steps)

-- the value of a magnitude and a sign
pub scaled_by : (numeral : Numeral) (d a : ℕ) → IsMagnitude numeral.digits (numeral.exponent +ℤ pos d) a → IsScaled numeral d (signed numeral.negative a)
scaled_by numeral d a is = grind (arith, common_steps)

pub scaled_above : (numeral : Numeral) (d : ℕ) → (a : ℕ) × IsMagnitude numeral.digits (numeral.exponent +ℤ pos d) a × (10 ^ 16 < a)
    → (value : ℤ) × IsScaled numeral d value × (10 ^ 16 < unsigned_abs value)
scaled_above numeral d above = grind (arith, common_steps, scaled_by, abs-signed)
