-- The number that digits spell.
use Rattle.std.proofs.Common.{◌≡◌, ℕ, suc, ◌+◌, ◌-◌, ◌*◌, ◌^◌, ◌<◌, ◌≤◌, List, [], ◌∷◌, ◌++◌, length, get_or, drop, refl, sym, ap, ◌∙◌, subst, arith}
use Rattle.std.{proofs.Math.Nat.{pow-suc, mul-le-mul_left, mul-le-mul_right}, proofs.lemmas.List.drop_more, proofs.lemmas.Nat.pow-add, specs.Char.digit_value}
use Rattle.std.{specs.Str.Parse.{AllDigits, digits_value, digits_value_after}, proofs.lemmas.Bool.Decides.nat_tests, proofs.lemmas.Grind.common_steps}
use Rattle.fixed_value.proofs.Powers.{ten_some, ten_grows}

pub digit_is : (c : ℕ) → digit_value c < 10 → 48 + digit_value c ≡ c
digit_is c small = grind (arith, nat_tests)

-- a number so far, and the digits to come
pub record ReadsOn (number : ℕ) (digits : List ℕ) (whole : ℕ) : Type 0 where
  pub same : digits_value_after 10 number digits ≡ whole
  pub digits_come : AllDigits 10 digits
  pub fits : (number + 1) * 10 ^ length digits ≤ 10 ^ 38

-- what is to come begins with the digit at hand
pub at_digit : (number index : ℕ) (digits : List ℕ) (whole : ℕ) → index < length digits → ReadsOn number (drop index digits) whole
    → ReadsOn number (get_or digits index 0 ∷ drop (index + 1) digits) whole
at_digit number index digits whole within on = subst (λ come. ReadsOn number come whole) (drop_more digits index 0 within) on

-- the digit's value
pub next_digit : (number digit : ℕ) (digits : List ℕ) (whole : ℕ) → ReadsOn number (digit ∷ digits) whole → (48 ≤ digit) × (digit ≤ 57)
next_digit number digit digits whole on = let is = digit_is digit on.digits_come.0 in (omega arith, omega (arith, on.digits_come.0))

longer : (k : ℕ) → 10 ^ suc k ≡ 10 * 10 ^ k
longer k = let power : 10 ^ suc k ≡ 10 ^ k * 10 = pow-suc 10 k in omega (arith, power)

-- there is room for it
pub next_fits : (number digit : ℕ) (digits : List ℕ) (whole : ℕ) → ReadsOn number (digit ∷ digits) whole → (number + 1) * 10 ≤ 10 ^ 38
next_fits number digit digits whole on = grind (arith, common_steps, length, mul-le-mul_left, ten_some, longer)

pub reads_more : (number digit next : ℕ) (digits : List ℕ) (whole : ℕ) → ReadsOn number (digit ∷ digits) whole → next ≡ 10 * number + (digit - 48) → ReadsOn next digits whole
reads_more number digit next digits whole on is =
    let value : 48 + digit_value digit ≡ digit = digit_is digit on.digits_come.0 in
    let small : digit_value digit < 10 = on.digits_come.0 in
    let same : next ≡ number * 10 + digit_value digit = omega (arith, value, is) in
    let row : (next + 1) * 10 ^ length digits ≤ ((number + 1) * 10) * 10 ^ length digits = mul-le-mul_right (10 ^ length digits) (omega (arith, same, small)) in
    let fits : (number + 1) * (10 * 10 ^ length digits) ≤ 10 ^ 38 = subst (λ p. (number + 1) * p ≤ 10 ^ 38) (longer (length digits)) on.fits in
    record {
      same = ap (λ n. digits_value_after 10 n digits) same ∙ on.same;
      digits_come = on.digits_come.1;
      fits = omega (arith, row, fits);
    }

-- ---- how large the number is

pub value_after_below : (n : ℕ) (digits : List ℕ) → AllDigits 10 digits → digits_value_after 10 n digits < (n + 1) * 10 ^ length digits
value_after_below n [] are = omega arith
value_after_below n (c ∷ digits) are =
    let rest : digits_value_after 10 (n * 10 + digit_value c) digits < (n * 10 + digit_value c + 1) * 10 ^ length digits = value_after_below (n * 10 + digit_value c) digits are.1 in
    let row : (n * 10 + digit_value c + 1) * 10 ^ length digits ≤ ((n + 1) * 10) * 10 ^ length digits = mul-le-mul_right (10 ^ length digits) (omega (arith, are.0)) in
    let power : 10 ^ suc (length digits) ≡ 10 * 10 ^ length digits = longer (length digits) in
    let goal : digits_value_after 10 (n * 10 + digit_value c) digits < (n + 1) * (10 * 10 ^ length digits) = omega (arith, rest, row) in
    subst (λ p. digits_value_after 10 (n * 10 + digit_value c) digits < (n + 1) * p) (sym power) goal

pub value_below : (digits : List ℕ) → AllDigits 10 digits → digits_value 10 digits < 10 ^ length digits
value_below digits are = let below = value_after_below 0 digits are in omega (arith, below)

pub value_after_append : (n : ℕ) (digits more : List ℕ) → digits_value_after 10 n (digits ++ more) ≡ digits_value_after 10 (digits_value_after 10 n digits) more
value_after_append n [] more = refl
value_after_append n (c ∷ digits) more = value_after_append (n * 10 + digit_value c) digits more

-- the digits behind those of a number fit, where both are few
pub fits_behind : (digits more : List ℕ) → AllDigits 10 digits → length digits + length more ≤ 38 → (digits_value 10 digits + 1) * 10 ^ length more ≤ 10 ^ 38
fits_behind digits more are few =
    let below : digits_value 10 digits + 1 ≤ 10 ^ length digits = omega (arith, value_below digits are) in
    let row : (digits_value 10 digits + 1) * 10 ^ length more ≤ 10 ^ length digits * 10 ^ length more = mul-le-mul_right (10 ^ length more) below in
    let power : 10 ^ (length digits + length more) ≡ 10 ^ length digits * 10 ^ length more = pow-add 10 (length digits) (length more) in
    omega (arith, row, power, ten_grows (length digits + length more) 38 few)
