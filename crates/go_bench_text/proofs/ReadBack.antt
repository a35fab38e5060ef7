-- Reading what was put gives the samples.
use Rattle.std.proofs.Common.{◌≡◌, ℕ, ℤ, zero, suc, ◌+◌, ◌-◌, ◌^◌, ◌<◌, ◌≤◌, unsigned_abs, Bool, true, false, not, ◌&&◌, ◌||◌, List, [], ◌∷◌, ◌++◌, length, take, get_or, refl, sym, ◌∙◌, ap, subst, arith, eqb, lit<, length-append, append_assoc}
use Rattle.std.specs.{Prelude.{codes, nat_lt}, Char.is_whitespace, List.{list_all, list_any, All}, Str.{chars, IsUtf8, NonePass, NoCharPasses}}
use Rattle.std.proofs.lemmas.Str.{encodes-chars, chars-nil, IsUtf8-nil, IsUtf8-append, IsUtf8-take, IsUtf8-drop, IsUtf8-from_ascii, NoCharPasses-byte, IsCharBoundary-before_ascii, IsCharBoundary-after_ascii}
use Rattle.std.proofs.lemmas.{List.get_or_default, List.Elements.All-append, List.Splits.slice_split_at, List.Sums.AllPass-from_list_all, Grind.common_steps}
use Rattle.std.proofs.lemmas.Bool.{not-true, and_parts}
use Rattle.line_text.specs.Lines.{lines_of}
use Rattle.fixed_value.specs.{Numerals.IsNumeralText, declared.numeral.Numeral.Numeral, Fixed.IsFixedByte}
use Rattle.metric_value.specs.Values.{value_text, IsValueOf, IsReadBackBy, ValueIsReadBack}
use Rattle.sample_model.specs.Samples.{Measurement, IsSample}
use Rattle.go_bench_text.specs.{Characters.{is_black, is_name, is_blank}, Lines.{begins, IsResult}}
use Rattle.go_bench_text.specs.Readings.{pkg_of, test_of, HasLarge, IsOver, IsRead, LineGives, LinesGive, LineGives.{measured, silent}}
use Rattle.go_bench_text.specs.Spellings.{is_bare_name, IsPartedAt, IsWrittenBy, IsSpelling, AreSpelled, pkg_line, result_line, IsWrittenBy.{lone, own, parted}}
use Rattle.go_bench_text.proofs.{Partings.parted_there, PkgInForce.pkg_set, PutFields.{MayPut, put_fields, ascii_of, ascii_word, bench_utf8}}
use Rattle.go_bench_text.proofs.{PutPkg.{Sets, sets_none, sets_some}, LineParts.{over_parts, none_over}}

-- ---- no line feed

-- the bytes hold no line feed
pub record IsClean (bytes : List ℕ) : Type 0 where
  pub each : All (λ b. eqb b 10 ≡ false) bytes

clean_word : (xs : List ℕ) → list_all (λ b. not (eqb b 10)) xs ≡ true → IsClean xs
clean_word xs h = record { each = λ k d l. not-true (eqb (get_or xs k d) 10) (AllPass-from_list_all (λ b. not (eqb b 10)) xs h k d l) }

clean_join : (xs ys : List ℕ) → IsClean xs → IsClean ys → IsClean (xs ++ ys)
clean_join xs ys h k = record { each = All-append (λ b. eqb b 10 ≡ false) xs ys h.each k.each }

off_ten : (b : ℕ) → (b ≡ 10 → ⊥) → eqb b 10 ≡ false
off_ten b h = grind (arith, common_steps)

clean_digits : (xs : List ℕ) → All IsFixedByte xs → IsClean xs
clean_digits xs h = record { each = λ k d l. off_ten (get_or xs k d) (λ e. omega (arith, (h k d l).0, e)) }

none_pass : (cs : List ℕ) → list_all is_black cs ≡ true → NonePass is_whitespace cs
none_pass [] h = tt
none_pass (c ∷ cs) h = (not-true (is_whitespace c) ((and_parts (is_black c) (list_all is_black cs) h).0), none_pass cs ((and_parts (is_black c) (list_all is_black cs) h).1))

no_white : (text : List ℕ) → IsUtf8 text → list_all is_black (chars text) ≡ true → NoCharPasses is_whitespace text
no_white text is h = (chars text, encodes-chars text is, none_pass (chars text) h)

no_ten : (text : List ℕ) (k : ℕ) → NoCharPasses is_whitespace text → k < length text → get_or text k 0 ≡ 10 → ⊥
no_ten text k none l e =
    let off : is_whitespace (get_or text k 0) ≡ false = NoCharPasses-byte is_whitespace text k none l (omega (arith, e)) in
    let on : is_whitespace (get_or text k 0) ≡ true = ap is_whitespace e in
    let no : true ≡ false = sym on ∙ off in absurd (cc)

clean_black : (text : List ℕ) → IsUtf8 text → list_all is_black (chars text) ≡ true → IsClean text
clean_black text is h = record { each = λ k d l. off_ten (get_or text k d) (λ e. no_ten text k (no_white text is h) l (get_or_default text k 0 d l ∙ e)) }

clean_first : (x : ℕ) (xs : List ℕ) (t : Bool) → (list_any (λ b. eqb b 10) xs ≡ false → list_all (λ b. not (eqb b 10)) xs ≡ true) → (t || list_any (λ b. eqb b 10) xs) ≡ false
    → (not t && list_all (λ b. not (eqb b 10)) xs) ≡ true
clean_first x xs t rest k = grind (arith, common_steps)

clean_any : (xs : List ℕ) → list_any (λ b. eqb b 10) xs ≡ false → list_all (λ b. not (eqb b 10)) xs ≡ true
clean_any [] h = refl
clean_any (x ∷ xs) h = clean_first x xs (eqb x 10) (clean_any xs) h

-- two lines and what follows them
lines_two : (one two rest : List ℕ) → IsClean one → IsClean two → lines_of ((one ++ 10 ∷ (two ++ 10 ∷ [])) ++ rest) ≡ one ∷ two ∷ lines_of rest
lines_two one two rest h k = grind (arith, common_steps, append_assoc, slice_split_at, eqb)

-- ---- the parts that a test is written by

pub record Parts (test pkg name : List ℕ) : Type 0 where
  pub pkg_is : IsUtf8 pkg
  pub name_is : IsUtf8 name
  pub pkg_clean : IsClean (pkg_line pkg)
  pub named : is_name (chars name) ≡ true
  pub black : list_all is_black (chars name) ≡ true
  pub sets : Sets (pkg_line pkg) pkg
  pub back : test_of pkg name ≡ test

no_name : is_bare_name [] ≡ true
no_name = ap (λ (cs : List ℕ). is_name cs && list_all is_black cs) chars-nil

without_pkg : (test name : List ℕ) → IsUtf8 name → is_bare_name name ≡ true → test_of [] name ≡ test → Parts test [] name
without_pkg test name is bare back = grind (arith, common_steps, clean_word, and_parts, sets_none)

own_name : (test : List ℕ) → 0 < length test → test_of [] test ≡ test
own_name test h = grind (arith, common_steps)

with_pkg : (test : List ℕ) (b : ℕ) (pkg name : List ℕ) → IsUtf8 (b ∷ pkg) → IsUtf8 name → IsPartedAt test (b ∷ pkg) name → Parts test (b ∷ pkg) name
with_pkg test b pkg name is also cut =
    let one = (and_parts (not (eqb (length (b ∷ pkg)) 0) && not (list_any (λ x. eqb x 10) (b ∷ pkg))) (not (is_blank b) && not (eqb (get_or (b ∷ pkg) (length (b ∷ pkg) - 1) 0) 13)) cut.before).0 in
    let two = (and_parts (not (eqb (length (b ∷ pkg)) 0) && not (list_any (λ x. eqb x 10) (b ∷ pkg))) (not (is_blank b) && not (eqb (get_or (b ∷ pkg) (length (b ∷ pkg) - 1) 0) 13)) cut.before).1 in
    let feed = not-true (list_any (λ x. eqb x 10) (b ∷ pkg)) ((and_parts (not (eqb (length (b ∷ pkg)) 0)) (not (list_any (λ x. eqb x 10) (b ∷ pkg))) one).1) in
    let first = not-true (is_blank b) ((and_parts (not (is_blank b)) (not (eqb (get_or (b ∷ pkg) (length (b ∷ pkg) - 1) 0) 13)) two).0) in
    let last = not-true (eqb (get_or (b ∷ pkg) (length (b ∷ pkg) - 1) 0) 13) ((and_parts (not (is_blank b)) (not (eqb (get_or (b ∷ pkg) (length (b ∷ pkg) - 1) 0) 13)) two).1) in
    record {
      pkg_is = is;
      name_is = also;
      pkg_clean = clean_join (codes "pkg: ") (b ∷ pkg) (clean_word (codes "pkg: ") refl) (clean_word (b ∷ pkg) (clean_any (b ∷ pkg) feed));
      named = (and_parts (is_name (chars name)) (list_all is_black (chars name)) cut.behind).0;
      black = (and_parts (is_name (chars name)) (list_all is_black (chars name)) cut.behind).1;
      sets = sets_some b pkg (record { first = first; last = last });
      back = sym cut.joined;
    }

cut_parts : (test pkg name : List ℕ) → IsUtf8 pkg → IsUtf8 name → IsPartedAt test pkg name → Parts test pkg name
cut_parts test [] name is also cut = absurd (let no : false ≡ true = cut.before in cc)
cut_parts test (b ∷ pkg) name is also cut = with_pkg test b pkg name is also cut

pub parts_of : (test pkg name : List ℕ) → IsUtf8 test → IsWrittenBy test pkg name → Parts test pkg name
parts_of test pkg name is (lone e f g) = grind (arith, common_steps, without_pkg, no_name)
parts_of test pkg name is (own h f g) = grind (arith, common_steps, without_pkg, own_name)
parts_of test pkg name is (parted off not_own first) =
    let there = parted_there test pkg name (length pkg) refl first.parted in
    let less : length pkg < length test = omega (arith, ap length first.parted.joined, length-append pkg (35 ∷ name)) in
    let front : IsUtf8 pkg = subst IsUtf8 (sym there.front) (IsUtf8-take test (length pkg) is (IsCharBoundary-before_ascii test (length pkg) less (omega (arith, there.hash)))) in
    let back : IsUtf8 name = subst IsUtf8 (sym there.back) (IsUtf8-drop test (length pkg + 1) is (IsCharBoundary-after_ascii test (length pkg) is less (omega (arith, there.hash)))) in
    cut_parts test pkg name front back first.parted

-- ---- the two lines of a sample

-- what is known of a sample's text
pub record Two (sample : Measurement) (text : List ℕ) : Type 0 where
  pub pkg : List ℕ
  pub line : List ℕ
  pub joined : text ≡ pkg_line pkg ++ 10 ∷ (line ++ 10 ∷ [])
  pub pkg_clean : IsClean (pkg_line pkg)
  pub clean : IsClean line
  pub off : begins (pkg_line pkg) ≡ false
  pub gives : (before : List (List ℕ)) → LineGives (before ++ pkg_line pkg ∷ []) line (sample ∷ []) 0
  pub in_range : (before : List (List ℕ)) → ¬ IsOver (before ++ pkg_line pkg ∷ []) line
  pub text_is : IsUtf8 text

-- a numeral has a byte
some_joined : (text sign whole tail : List ℕ) → text ≡ sign ++ (whole ++ tail) → 0 < length whole → 0 < length text
some_joined text sign whole tail e h = omega (arith, ap length e, length-append sign (whole ++ tail), length-append whole tail)

at_length : (text : List ℕ) (numeral : Numeral) → IsNumeralText text numeral → 0 < length text
at_length text numeral is = some_joined text is.sign is.whole is.tail is.joined is.whole_is.0

some_value : (sample : Measurement) → IsReadBackBy sample.metric sample.value → 0 < length (value_text sample.metric sample.value)
some_value sample back = at_length (value_text sample.metric sample.value) back.reads.numeral back.reads.spells

is_result : (name : List ℕ) (sample : Measurement) → MayPut name (value_text sample.metric sample.value) sample.metric → is_name (chars name) ≡ true → IsReadBackBy sample.metric sample.value → length sample.metric ≤ 64
    → IsResult (result_line name sample) name (value_text sample.metric sample.value ∷ sample.metric ∷ [])
is_result name sample may named back short = record {
  head = record { count = 49 ∷ []; first = refl; fields = put_fields name (value_text sample.metric sample.value) sample.metric may; named = named; counted = (omega arith, (lit< tt, tt)) };
  some = omega arith;
  paired = ((back.reads.numeral, back.reads.spells), short, tt);
}

result_clean : (name : List ℕ) (sample : Measurement) → MayPut name (value_text sample.metric sample.value) sample.metric → IsClean (result_line name sample)
result_clean name sample may =
    clean_join (codes "Benchmark" ++ name) (codes " 1 " ++ (value_text sample.metric sample.value ++ 32 ∷ sample.metric))
    (clean_join (codes "Benchmark") name (clean_word (codes "Benchmark") refl) (clean_black name may.name_is may.name_black))
    (clean_join (codes " 1 ") (value_text sample.metric sample.value ++ 32 ∷ sample.metric) (clean_word (codes " 1 ") refl)
    (clean_join (value_text sample.metric sample.value) (32 ∷ sample.metric) (clean_digits (value_text sample.metric sample.value) may.fixed_is) (clean_join (32 ∷ []) sample.metric (clean_word (32 ∷ []) refl) (clean_black sample.metric may.metric_is may.metric_black))))

utf8_word : (xs : List ℕ) → list_all (λ b. nat_lt b 128) xs ≡ true → IsUtf8 xs
utf8_word xs e = IsUtf8-from_ascii xs (ascii_word xs e)

result_utf8 : (name : List ℕ) (sample : Measurement) → MayPut name (value_text sample.metric sample.value) sample.metric → IsUtf8 (result_line name sample)
result_utf8 name sample may =
    IsUtf8-append (codes "Benchmark" ++ name) (codes " 1 " ++ (value_text sample.metric sample.value ++ 32 ∷ sample.metric)) (IsUtf8-append (codes "Benchmark") name bench_utf8 may.name_is)
    (IsUtf8-append (codes " 1 ") (value_text sample.metric sample.value ++ 32 ∷ sample.metric) (utf8_word (codes " 1 ") refl)
    (IsUtf8-append (value_text sample.metric sample.value) (32 ∷ sample.metric) (IsUtf8-from_ascii (value_text sample.metric sample.value) (ascii_of (value_text sample.metric sample.value) may.fixed_is)) (IsUtf8-append (32 ∷ []) sample.metric (utf8_word (32 ∷ []) refl) may.metric_is)))

pkg_utf8 : (pkg : List ℕ) → IsUtf8 pkg → IsUtf8 (pkg_line pkg)
pkg_utf8 [] is = utf8_word (codes "pkg:") refl
pkg_utf8 (b ∷ pkg) is = IsUtf8-append (codes "pkg: ") (b ∷ pkg) (utf8_word (codes "pkg: ") refl) is

lines_utf8 : (one two : List ℕ) → IsUtf8 one → IsUtf8 two → IsUtf8 (one ++ 10 ∷ (two ++ 10 ∷ []))
lines_utf8 one two is also =
    IsUtf8-append one (10 ∷ (two ++ 10 ∷ [])) is (IsUtf8-append (10 ∷ []) (two ++ 10 ∷ []) (utf8_word (10 ∷ []) refl) (IsUtf8-append two (10 ∷ []) also (utf8_word (10 ∷ []) refl)))

-- the line that sets `pkg` leaves it so for the next line
pkg_then : (before : List (List ℕ)) (pkg : List ℕ) → Sets (pkg_line pkg) pkg → pkg_of (before ++ pkg_line pkg ∷ []) ≡ pkg
pkg_then before pkg sets = pkg_set before (pkg_line pkg) sets.sets ∙ sets.value

-- the test of a name behind that line
test_back : (test pkg name : List ℕ) (before : List (List ℕ)) → Parts test pkg name → test_of (pkg_of (before ++ pkg_line pkg ∷ [])) name ≡ test
test_back test pkg name before parts = ap (λ (p : List ℕ). test_of p name) (pkg_then before pkg parts.sets) ∙ parts.back

-- a pair whose value is in range is not out of range
small_pair : (text unit : List ℕ) (value : ℤ) → IsValueOf unit text value → unsigned_abs value ≤ 10 ^ 16 → ¬ HasLarge (text ∷ unit ∷ [])
small_pair text unit value is small x5 = grind (arith, common_steps)

pub two_of : (sample : Measurement) (text : List ℕ) → IsSample sample → ValueIsReadBack → IsSpelling sample text → Two sample text
two_of sample text is law spelled =
    let parts = parts_of sample.test spelled.pkg spelled.name is.test.text spelled.written in
    let back : IsReadBackBy sample.metric sample.value = law sample.metric sample.value is.in_range in
    let may : MayPut spelled.name (value_text sample.metric sample.value) sample.metric = grind (arith, common_steps) in
    let result : IsResult (result_line spelled.name sample) spelled.name (value_text sample.metric sample.value ∷ sample.metric ∷ []) = is_result spelled.name sample may parts.named back is.short in
    record {
      pkg = spelled.pkg;
      line = result_line spelled.name sample;
      joined = spelled.lines;
      pkg_clean = parts.pkg_clean;
      clean = result_clean spelled.name sample may;
      off = parts.sets.off;
      gives = λ before.
          measured spelled.name (value_text sample.metric sample.value ∷ sample.metric ∷ []) result
          (record { of_test = sym (test_back sample.test spelled.pkg spelled.name before parts); by_metric = refl; value = back.reads }, tt) refl;
      in_range = λ before over.
          none_over (test_of (pkg_of (before ++ pkg_line spelled.pkg ∷ [])) spelled.name) (value_text sample.metric sample.value ∷ sample.metric ∷ [])
          (subst (λ (t : List ℕ). length t ≤ 256) (sym (test_back sample.test spelled.pkg spelled.name before parts)) is.test.short) (small_pair (value_text sample.metric sample.value) sample.metric sample.value back.reads is.in_range)
          (over_parts (before ++ pkg_line spelled.pkg ∷ []) (result_line spelled.name sample) spelled.name (value_text sample.metric sample.value ∷ sample.metric ∷ []) result over);
      text_is = subst IsUtf8 (sym spelled.lines) (lines_utf8 (pkg_line spelled.pkg) (result_line spelled.name sample) (pkg_utf8 spelled.pkg parts.pkg_is) (result_utf8 spelled.name sample may));
    }

-- ---- the whole text

rest_of : (sample : Measurement) (samples : List Measurement) → All IsSample (sample ∷ samples) → All IsSample samples
rest_of sample samples h k d l = h (suc k) d (omega arith)

spelled_gives : (before : List (List ℕ)) (samples : List Measurement) (text : List ℕ) → All IsSample samples → ValueIsReadBack → AreSpelled samples text → LinesGive before (lines_of text) samples 0
spelled_gives before [] text all law e =
    subst (λ (xs : List ℕ). LinesGive before (lines_of xs) [] 0) (sym e) ([], [], 0, 0, refl, refl, silent refl refl refl, (refl, refl))
spelled_gives before (sample ∷ samples) text all law spelled =
    let two = two_of sample spelled.0 (all zero sample (omega arith)) law spelled.3 in
    let lines : lines_of text ≡ pkg_line two.pkg ∷ two.line ∷ lines_of spelled.1 =
    ap lines_of (spelled.2 ∙ ap (λ (xs : List ℕ). xs ++ spelled.1) two.joined) ∙ lines_two (pkg_line two.pkg) two.line spelled.1 two.pkg_clean two.clean in
    let behind : LinesGive (before ++ pkg_line two.pkg ∷ []) (two.line ∷ lines_of spelled.1) (sample ∷ samples) 0 =
    (sample ∷ [], samples, 0, 0, refl, refl, two.gives before, spelled_gives ((before ++ pkg_line two.pkg ∷ []) ++ two.line ∷ []) samples spelled.1 (rest_of sample samples all) law spelled.4) in
    subst (λ (ls : List (List ℕ)). LinesGive before ls (sample ∷ samples) 0) (sym lines) ([], sample ∷ samples, 0, 0, refl, refl, silent two.off refl refl, behind)

spelled_text : (samples : List Measurement) (text : List ℕ) → All IsSample samples → ValueIsReadBack → AreSpelled samples text → IsUtf8 text
spelled_text [] text all law e = subst IsUtf8 (sym e) IsUtf8-nil
spelled_text (sample ∷ samples) text all law spelled =
    let two = two_of sample spelled.0 (all zero sample (omega arith)) law spelled.3 in
    subst IsUtf8 (sym spelled.2) (IsUtf8-append spelled.0 spelled.1 two.text_is (spelled_text samples spelled.1 (rest_of sample samples all) law spelled.4))

none_there : (before : List (List ℕ)) (one two : List ℕ) (rest : List (List ℕ)) → begins one ≡ false → ¬ IsOver (before ++ one ∷ []) two
    → ((k : ℕ) → ¬ IsOver (((before ++ one ∷ []) ++ two ∷ []) ++ take k rest) (get_or rest k [])) → (k : ℕ) → ¬ IsOver (before ++ take k (one ∷ two ∷ rest)) (get_or (one ∷ two ∷ rest) k [])
none_there before one two rest off small later k over = grind (arith, common_steps)

none_empty : (before : List (List ℕ)) (k : ℕ) → ¬ IsOver (before ++ take k ([] ∷ [])) (get_or ([] ∷ []) k [])
none_empty before k over = grind (arith, common_steps)

spelled_in_range : (before : List (List ℕ)) (samples : List Measurement) (text : List ℕ) → All IsSample samples → ValueIsReadBack → AreSpelled samples text
    → (k : ℕ) → ¬ IsOver (before ++ take k (lines_of text)) (get_or (lines_of text) k [])
spelled_in_range before [] text all law e k = grind (arith, common_steps)
spelled_in_range before (sample ∷ samples) text all law spelled k =
    let two = two_of sample spelled.0 (all zero sample (omega arith)) law spelled.3 in
    let lines : lines_of text ≡ pkg_line two.pkg ∷ two.line ∷ lines_of spelled.1 =
    ap lines_of (spelled.2 ∙ ap (λ (xs : List ℕ). xs ++ spelled.1) two.joined) ∙ lines_two (pkg_line two.pkg) two.line spelled.1 two.pkg_clean two.clean in
    subst (λ (ls : List (List ℕ)). ¬ IsOver (before ++ take k ls) (get_or ls k [])) (sym lines)
    (none_there before (pkg_line two.pkg) two.line (lines_of spelled.1) two.off (two.in_range before)
    (spelled_in_range ((before ++ pkg_line two.pkg ∷ []) ++ two.line ∷ []) samples spelled.1 (rest_of sample samples all) law spelled.4) k)

-- the text of samples is read as these samples
pub spelled_read : (samples : List Measurement) (text : List ℕ) → All IsSample samples → ValueIsReadBack → AreSpelled samples text → IsRead text samples 0
spelled_read samples text all law spelled = record {
  text = spelled_text samples text all law spelled;
  gives = spelled_gives [] samples text all law spelled;
  in_range = λ k less. spelled_in_range [] samples text all law spelled k;
}
