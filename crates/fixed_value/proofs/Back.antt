-- The text of a value is a numeral, and its scaled value is the value.
use Rattle.std.proofs.Common.{◌≡◌, ℕ, zero, suc, ◌+◌, ◌/◌, ◌^◌, ◌<◌, ◌≤◌, Bool, true, false, List, [], ◌∷◌, ◌++◌, length, decimal, refl, sym, ap, ◌∙◌, subst, arith, append-nil, length-append, ℤ, pos, negsuc, ◌-ℤ◌}
use Rattle.std.{specs.Prelude.{All, unsigned_abs}, proofs.Math.Nat.{div-div-eq-div-mul, pow-suc}, specs.Char.digit_value, proofs.lemmas.Grind.common_steps}
use Rattle.std.{specs.Str.Parse.{AllDigits, digits_value_after}, proofs.lemmas.Bool.Decides.nat_tests}
use Rattle.std.proofs.lemmas.{Fmt.{decimal_is_IsNumeral_wide, length-decimal-le_wide}, List.Elements.{All-nil, All-cons, All-append}}
use Rattle.fixed_value.specs.Fixed.{low_digits, fraction_text, magnitude_text, fixed_text, IsFixedByte, IsReadBack, FixedIsReadBack}
use Rattle.fixed_value.{specs.Numerals.{IsSign, no_sign, minus, no_point, point, no_mark, IsTail}, specs.Scaled.signed, proofs.Reading.value_after_append}

-- ---- the digits behind the point

digit_value_of : (x : ℕ) → x < 10 → digit_value (48 + x) ≡ x
digit_value_of x small = grind (arith, nat_tests)

low_are : (d n : ℕ) → AllDigits 10 (low_digits d n)
low_are zero n = tt
low_are (suc d) n = grind (arith, common_steps, low_are d n)

length-low : (d n : ℕ) → length (low_digits d n) ≡ d
length-low zero n = refl
length-low (suc d) n = ap suc (length-low d n)

shorter : (d n : ℕ) → n / 10 ^ suc d ≡ n / 10 ^ d / 10
shorter d n = sym (div-div-eq-div-mul n (10 ^ d) 10 ∙ ap (λ p. n / p) (sym (pow-suc 10 d)))

-- behind the whole part they give the number
low_value : (d n : ℕ) → digits_value_after 10 (n / 10 ^ d) (low_digits d n) ≡ n
low_value zero n = omega arith
low_value (suc d) n = grind (arith, common_steps, digit_value, shorter, digit_value_of, digits_value_after, low_value d n)

tail_of : (d n : ℕ) → IsTail (fraction_text d n) (low_digits d n) (pos 0)
tail_of zero n = record { point = []; exponent = []; joined = refl; point_is = no_point refl refl; exponent_is = no_mark refl refl }
tail_of (suc d) n = record {
  point = 46 ∷ low_digits (suc d) n;
  exponent = [];
  joined = sym (append-nil (46 ∷ low_digits (suc d) n));
  point_is = point refl (omega arith, low_are (suc d) n);
  exponent_is = no_mark refl refl;
}

length-tail : (d n : ℕ) → length (fraction_text d n) ≤ d + 1
length-tail d n = grind (arith, common_steps, length-low)

-- ---- bytes

digits_stand : (digits : List ℕ) → AllDigits 10 digits → All IsFixedByte digits
digits_stand [] are = All-nil IsFixedByte
digits_stand (c ∷ digits) are = grind (arith, common_steps, digits_stand digits are.1)

tail_stands : (d n : ℕ) → All IsFixedByte (fraction_text d n)
tail_stands d n = grind (arith, common_steps, digits_stand, low_are)

-- ---- the text

whole_below : (n d : ℕ) → n ≤ 10 ^ 16 → n / 10 ^ d < 10 ^ 17
whole_below n d small = omega arith

back : (sign : List ℕ) (negative : Bool) (n d : ℕ) (value : ℤ) → IsSign sign negative → length sign ≤ 1 → n ≤ 10 ^ 16 → d ≤ 9 → All IsFixedByte sign
    → fixed_text value d ≡ sign ++ magnitude_text n d → unsigned_abs value ≡ n → value ≡ signed negative n → IsReadBack value d
back sign negative n d value signs one small few stands text abs is =
    let digits = decimal_is_IsNumeral_wide (n / 10 ^ d) (omega (arith, whole_below n d small)) in
    let len : length (decimal (n / 10 ^ d)) ≤ 17 = length-decimal-le_wide 17 (n / 10 ^ d) (omega arith) (whole_below n d small) (omega (arith, whole_below n d small)) in
    let low : length (low_digits d n) ≡ d = length-low d n in
    let parts = length-append (decimal (n / 10 ^ d)) (fraction_text d n) in
    let whole = length-append sign (magnitude_text n d) in
    record {
      numeral = record { negative = negative; digits = n; exponent = pos 0 -ℤ pos d };
      reads = record {
        sign = sign;
        whole = decimal (n / 10 ^ d);
        fraction = low_digits d n;
        tail = fraction_text d n;
        power = pos 0;
        joined = text;
        sign_is = signs;
        whole_is = digits.0;
        tail_is = tail_of d n;
        digits = sym (value_after_append 0 (decimal (n / 10 ^ d)) (low_digits d n) ∙ ap (λ q. digits_value_after 10 q (low_digits d n)) digits.1 ∙ low_value d n);
        exponent = ap (λ k. pos 0 -ℤ pos k) (sym low);
        short = omega (arith, ap length text, whole, parts, len, length-tail d n, one, few);
        few = omega (arith, len, low, few);
      };
      scales = grind (arith, common_steps);
      bytes = subst (All IsFixedByte) (sym text)
          (All-append IsFixedByte sign (magnitude_text n d) stands (All-append IsFixedByte (decimal (n / 10 ^ d)) (fraction_text d n) (digits_stand (decimal (n / 10 ^ d)) digits.0.1) (tail_stands d n)));
    }

pub fixed_read_back : FixedIsReadBack
fixed_read_back (pos n) d small few = back [] false n d (pos n) (no_sign refl refl) (omega arith) small few (All-nil IsFixedByte) refl refl refl
fixed_read_back (negsuc n) d small few =
    back (45 ∷ []) true (suc n) d (negsuc n) (minus refl refl) (omega arith) small few (All-cons IsFixedByte 45 [] (omega arith, omega arith) (All-nil IsFixedByte)) refl refl refl
