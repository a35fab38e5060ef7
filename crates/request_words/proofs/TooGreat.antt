-- A number that is none of 128 bits.
use Rattle.std.{proofs.Common.{◌≡◌, ◌≢◌, ℕ, ◌^◌, ◌<◌, Bool, true, false, List, decimal, nat_le, refl, arith}, specs.Str.Parse.digits_value}
use Rattle.std.proofs.lemmas.Bool.{leb-true, leb-false}
use Rattle.line_text.specs.Numbers.{IsNumber, NumbersAreSpelled}

pub too_great : (word : List ℕ) → IsNumber word → NumbersAreSpelled → ((n : ℕ) → n < 2 ^ 128 → word ≢ decimal n) → 10 ^ 36 < digits_value 10 word
too_great word is law none = by (nat_le (digits_value 10 word) (10 ^ 36)) refl
  where
    by : (b : Bool) → nat_le (digits_value 10 word) (10 ^ 36) ≡ b → 10 ^ 36 < digits_value 10 word
    by true small =
        let le = leb-true (digits_value 10 word) (10 ^ 36) small in
        absurd (none (digits_value 10 word) (omega (arith, le)) ((law (digits_value 10 word) word (omega (arith, le))).1 (is, refl)))
    by false great = leb-false (digits_value 10 word) (10 ^ 36) great
