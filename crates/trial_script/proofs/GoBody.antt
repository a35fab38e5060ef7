-- The body of a submission is one sample.
use Rattle.std.proofs.Common.{◌≡◌, ◌≢◌, ℕ, pos, zero, suc, ◌*◌, ◌^◌, ◌<◌, ◌≤◌, inl, inr, true, false, not, List, [], ◌∷◌, ◌++◌, length, take, get_or, refl, sym, ap, ◌∙◌, subst, arith, eqb, append-nil, lit<}
use Rattle.std.specs.{Prelude.{codes, decimal, nat_lt, All}, List.list_all, Int.IsInRange, Str.{chars, IsUtf8}, Str.Parse.{AllDigits, digits_value}}
use Rattle.std.proofs.lemmas.{Str.{IsUtf8-from_ascii, IsAscii-append, chars-IsAscii}, Str.Parse.digit_from_value, Bool.not-true, Bool.Decides.nat_tests}
use Rattle.std.proofs.lemmas.{Fmt.{decimal_is_IsNumeral, length-decimal-le}, List.Elements.{All-append, All-nil, All-cons}, List.Sums.AllPass-from_list_all}
use Rattle.line_text.specs.Lines.{lines_of, LinesEnd}
use Rattle.fixed_value.specs.{Fixed.IsFixedByte, Numerals.IsNumeralText, Numerals.IsSign.no_sign, Numerals.IsFraction.no_point, Numerals.IsExponent.no_mark}
use Rattle.fixed_value.specs.declared.numeral.Numeral.{Numeral}
use Rattle.metric_value.specs.Values.{IsValueOf}
use Rattle.ucd_table.specs.Rows.{value_in}
use Rattle.ucd_category.specs.{GeneralCategory.general_category, GeneralCategoryRows.general_category_rows}
use Rattle.go_bench_text.specs.{Characters.{is_black, is_name}, Lines.IsResult, Readings.{HasLarge, IsOver, IsRead, LinesGive}}
use Rattle.go_bench_text.{specs.Readings.LineGives.{measured, silent}, proofs.PutFields.{MayPut, put_fields, ascii_word, ascii_of}}
use Rattle.go_bench_text.proofs.LineParts.{over_parts, none_over, silent_in_range}
use Rattle.trial_script.specs.Requests.{test, metric, sample}

-- ---- the value

digits_fixed : (ds : List ℕ) → AllDigits 10 ds → All IsFixedByte ds
digits_fixed [] are = All-nil IsFixedByte
digits_fixed (d ∷ ds) are = let is : IsInRange 48 57 d = digit_from_value d are.0 in All-cons IsFixedByte d ds
    (omega (arith, is.0), omega (arith, is.1)) (digits_fixed ds are.1)

fixed_value : (v : ℕ) → v < 2 ^ 64 → All IsFixedByte (decimal v)
fixed_value v small = digits_fixed (decimal v) (decimal_is_IsNumeral v small).0.1

abbrev numeral : ℕ → Numeral
numeral v = record { negative = false; digits = v; exponent = pos 0 }

numeral_text : (v : ℕ) → v < 2 ^ 64 → IsNumeralText (decimal v) (numeral v)
numeral_text v small =
    let is = decimal_is_IsNumeral v small in
    let few : length (decimal v) ≤ 20 = length-decimal-le 20 v (omega arith) (omega (arith, small)) small in
    record {
      sign = [];
      whole = decimal v;
      fraction = [];
      tail = [];
      power = pos 0;
      joined = sym (append-nil (decimal v));
      sign_is = no_sign refl refl;
      whole_is = is.0;
      tail_is = record { point = []; exponent = []; joined = refl; point_is = no_point refl refl; exponent_is = no_mark refl refl };
      digits = sym (ap (digits_value 10) (append-nil (decimal v)) ∙ is.1);
      exponent = refl;
      short = omega (arith, few);
      few = omega (arith, few);
    }

value_of : (v : ℕ) → v < 2 ^ 64 → IsValueOf metric (decimal v) (pos (v * 10_000))
value_of v small = record { numeral = numeral v; spells = numeral_text v small; scales = record { magnitude = refl; sign = refl } }

-- ---- the line

black : (word : List ℕ) → list_all (λ b. nat_lt b 128) word ≡ true → list_all is_black word ≡ true → list_all is_black (chars word) ≡ true
black word ascii is = ap (list_all is_black) (chars-IsAscii word (ascii_word word ascii)) ∙ is

may_put : (v : ℕ) → v < 2 ^ 64 → MayPut test (decimal v) metric
may_put v small = record {
  name_is = IsUtf8-from_ascii test (ascii_word test refl);
  name_black = black test refl refl;
  fixed_is = fixed_value v small;
  fixed_some = (decimal_is_IsNumeral v small).0.0;
  metric_is = IsUtf8-from_ascii metric (ascii_word metric refl);
  metric_black = black metric refl refl;
  metric_some = omega arith;
}

abbrev pub result : ℕ → List ℕ
result v = codes "BenchmarkG 1 " ++ (decimal v ++ codes " ns/op")

upper_case : is_name test ≡ true
unfolding general_category value_in general_category_rows
upper_case = refl

named : is_name (chars test) ≡ true
named = ap is_name (chars-IsAscii test (ascii_word test refl)) ∙ upper_case

is_result : (v : ℕ) → v < 2 ^ 64 → IsResult (result v) test (decimal v ∷ metric ∷ [])
is_result v small = record {
  head = record { count = 49 ∷ []; first = refl; fields = put_fields test (decimal v) metric (may_put v small); named = named; counted = (omega arith, (lit< tt, tt)) };
  some = omega arith;
  paired = ((numeral v, numeral_text v small), omega arith, tt);
}

-- ---- the whole body

abbrev body : ℕ → List ℕ
body v = result v ++ 10 ∷ []

clean : (xs : List ℕ) → list_all (λ b. not (eqb b 10)) xs ≡ true → All (λ b. b ≢ 10) xs
clean xs all = λ k d l. off_ten (get_or xs k d) (not-true (eqb (get_or xs k d) 10) (AllPass-from_list_all (λ b. not (eqb b 10)) xs all k d l))
  where
    off_ten : (b : ℕ) → eqb b 10 ≡ false → b ≢ 10
    off_ten b h is = grind (arith, nat_tests)

fixed_clean : (xs : List ℕ) → All IsFixedByte xs → All (λ b. b ≢ 10) xs
fixed_clean xs all = λ k d l is. absurd (omega (arith, (all k d l).0, is))

result_clean : (v : ℕ) → v < 2 ^ 64 → All (λ b. b ≢ 10) (result v)
result_clean v small =
    All-append (λ b. b ≢ 10) (codes "BenchmarkG 1 ") (decimal v ++ codes " ns/op") (clean (codes "BenchmarkG 1 ") refl)
    (All-append (λ b. b ≢ 10) (decimal v) (codes " ns/op") (fixed_clean (decimal v) (fixed_value v small)) (clean (codes " ns/op") refl))

body_utf8 : (v : ℕ) → v < 2 ^ 64 → IsUtf8 (body v)
body_utf8 v small =
    IsUtf8-from_ascii (body v)
    (IsAscii-append (result v) (10 ∷ [])
    (IsAscii-append (codes "BenchmarkG 1 ") (decimal v ++ codes " ns/op") (ascii_word (codes "BenchmarkG 1 ") refl)
    (IsAscii-append (decimal v) (codes " ns/op") (ascii_of (decimal v) (fixed_value v small)) (ascii_word (codes " ns/op") refl)))
    (ascii_word (10 ∷ []) refl))

body_lines : LinesEnd → (v : ℕ) → v < 2 ^ 64 → lines_of (body v) ≡ result v ∷ [] ∷ []
body_lines ends v small = ends (result v) [] (result_clean v small)

small_pair : (v : ℕ) → v ≤ 10_000 → ¬ HasLarge (decimal v ∷ metric ∷ [])
small_pair v few (inl large) = absurd (omega (arith, large (pos (v * 10_000)) (value_of v (omega (arith, few))), few))
small_pair v few (inr none) = none

gives : (v : ℕ) → v ≤ 10_000 → LinesGive [] (result v ∷ [] ∷ []) (sample v ∷ []) 0
gives v few =
    let small : v < 2 ^ 64 = omega (arith, few) in (
      sample v ∷ [],
      [],
      0,
      0,
      refl,
      refl,
      measured test (decimal v ∷ metric ∷ []) (is_result v small) (record { of_test = refl; by_metric = refl; value = value_of v small }, tt) refl,
      ([], [], 0, 0, refl, refl, silent refl refl refl, (refl, refl)),
    )

in_range : (v : ℕ) → v ≤ 10_000 → (k : ℕ) → k < 2 → ¬ IsOver (take k (result v ∷ [] ∷ [])) (get_or (result v ∷ [] ∷ []) k [])
in_range v few zero less over =
    none_over test (decimal v ∷ metric ∷ []) (omega arith) (small_pair v few)
    (over_parts [] (result v) test (decimal v ∷ metric ∷ []) (is_result v (omega (arith, few))) over)
in_range v few (suc zero) less over = silent_in_range (result v ∷ []) [] refl over
in_range v few (suc (suc k)) less over = absurd (omega (arith, less))

pub body_read : LinesEnd → (v : ℕ) → v ≤ 10_000 → IsRead (body v) (sample v ∷ []) 0
body_read ends v few =
    let small : v < 2 ^ 64 = omega (arith, few) in
    let lines = body_lines ends v small in
    record {
      text = body_utf8 v small;
      gives = subst (λ (ls : List (List ℕ)). LinesGive [] ls (sample v ∷ []) 0) (sym lines) (gives v few);
      in_range = subst (λ (ls : List (List ℕ)). (k : ℕ) → k < length ls → ¬ IsOver (take k ls) (get_or ls k [])) (sym lines) (in_range v few);
    }
