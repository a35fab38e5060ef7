-- The text of a value is a number of JSON.
use Rattle.std.proofs.lemmas.Grind.{common_steps}
use Rattle.std.proofs.Common.{◌≡◌, ℕ, zero, suc, ◌+◌, ◌/◌, ◌%◌, ◌^◌, ◌<◌, ◌≤◌, List, [], ◌∷◌, ◌++◌, inl, inr, length, decimal, IsTrue, refl, sym, ◌∙◌, arith, append_assoc, append-nil, ℤ, pos, negsuc}
use Rattle.std.specs.{Prelude.{All, unsigned_abs, slice_index}, Char.digit_value, Str.{IsUtf8, IsAscii}, Str.Parse.AllDigits}
use Rattle.std.proofs.lemmas.{Bool.cases_eq, Bool.Decides.nat_tests, List.Elements.{All-head, All-tail}, Str.{IsUtf8-append, IsUtf8-nil, IsUtf8-from_ascii}}
use Rattle.line_text.specs.Numbers.{NumbersAreSpelled}
use Rattle.fixed_value.specs.Fixed.{low_digits, fraction_text, magnitude_text, IsFixedByte}
use Rattle.metric_table.specs.Table.{row_of}
use Rattle.metric_value.specs.Values.{value_text, ValueIsReadBack}
use Rattle.json_text.specs.{Classes.{is_digit, is_leading_digit}, Grammar.{Each, IsMinus, IsWhole, IsFraction, IsNumber}}

digit_tests : (c : ℕ) → digit_value c < 10 → IsTrue (is_digit c)
digit_tests c small = grind (arith, nat_tests)

leading_tests : (c : ℕ) → digit_value c < 10 → (c ≡ 48 → ⊥) → IsTrue (is_leading_digit c)
leading_tests c small some = grind (arith, nat_tests)

digits_test : (digits : List ℕ) → AllDigits 10 digits → Each is_digit digits
digits_test [] are = tt
digits_test (c ∷ digits) are = (digit_tests c are.0, digits_test digits are.1)

none_left : (digits : List ℕ) → length digits ≡ 0 → digits ≡ []
none_left digits none = grind (arith, common_steps)

whole_is : (word : List ℕ) → 0 < length word → AllDigits 10 word → (slice_index word 0 ≡ 48 → length word ≡ 1) → IsWhole word
whole_is word some are first = grind (arith, common_steps, cases_eq, none_left, leading_tests, digits_test)

low_test : (x : ℕ) → x < 10 → IsTrue (is_digit (48 + x))
low_test x small = grind (arith, nat_tests)

low_tests : (d n : ℕ) → Each is_digit (low_digits d n)
low_tests zero n = tt
low_tests (suc d) n = (low_test (n / 10 ^ d % 10) (omega arith), low_tests d n)

fraction_is : (d n : ℕ) → IsFraction (fraction_text d n)
fraction_is d n = grind (arith, common_steps, low_test, low_tests)

whole_below : (n d : ℕ) → n ≤ 10 ^ 16 → n / 10 ^ d < 10 ^ 17
whole_below n d small = omega arith

number_of : NumbersAreSpelled → (sign : List ℕ) (n d : ℕ) → IsMinus sign → n ≤ 10 ^ 16 → IsNumber (sign ++ magnitude_text n d)
number_of law sign n d signs small =
    let spelled = ((law (n / 10 ^ d) (decimal (n / 10 ^ d)) (omega (arith, whole_below n d small))).0 refl).0 in (
      sign,
      decimal (n / 10 ^ d),
      fraction_text d n,
      [],
      sym (append_assoc sign (decimal (n / 10 ^ d)) (fraction_text d n)) ∙ sym (append-nil (sign ++ decimal (n / 10 ^ d) ++ fraction_text d n)),
      signs,
      whole_is (decimal (n / 10 ^ d)) spelled.digits.0 spelled.digits.1 spelled.first,
      fraction_is d n,
      tt,
    )

pub value-number : NumbersAreSpelled → (metric : List ℕ) (value : ℤ) → unsigned_abs value ≤ 10 ^ 16 → IsNumber (value_text metric value)
value-number law metric (pos n) small = number_of law [] n (row_of metric).decimals (inl refl) small
value-number law metric (negsuc n) small = number_of law (45 ∷ []) (suc n) (row_of metric).decimals (inr refl) small

one_ascii : (b : ℕ) → b < 128 → IsAscii (b ∷ [])
one_ascii b small x2 = grind (arith, common_steps)

standing_ascii : (bytes : List ℕ) → All IsFixedByte bytes → IsUtf8 bytes
standing_ascii [] stand = IsUtf8-nil
standing_ascii (b ∷ bytes) stand =
    let small = All-head IsFixedByte b bytes stand in
    IsUtf8-append (b ∷ []) bytes (IsUtf8-from_ascii (b ∷ []) (one_ascii b (omega (arith, small)))) (standing_ascii bytes (All-tail IsFixedByte b bytes stand))

pub value-utf8 : ValueIsReadBack → (metric : List ℕ) (value : ℤ) → unsigned_abs value ≤ 10 ^ 16 → IsUtf8 (value_text metric value)
value-utf8 law metric value small = standing_ascii (value_text metric value) (law metric value small).bytes
