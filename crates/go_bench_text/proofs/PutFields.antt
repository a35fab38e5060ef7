-- The fields of a line that is put.
use Rattle.std.proofs.Common.{◌≡◌, ℕ, zero, suc, ◌<◌, ◌≤◌, true, List, [], ◌∷◌, ◌++◌, length, get_or, refl, sym, ◌∙◌, ap, arith, lit<}
use Rattle.std.{specs.Prelude.{codes, nat_lt}, specs.List.{list_all, All}, specs.Str.{chars, encode_utf8_all, IsUtf8, IsAscii}, proofs.lemmas.Bool.and_from}
use Rattle.std.proofs.lemmas.Str.{chars-append, encodes-chars, chars-nil, chars-IsAscii, IsUtf8-from_ascii, IsUtf8-append, encode_ascii}
use Rattle.std.proofs.lemmas.List.{append-nil, get_or_past, Folds.list_all-append, Sums.{list_all-from_AllPass, AllPass-from_list_all}}
use Rattle.std.proofs.lemmas.Bool.Decides.{nat_tests}
use Rattle.fixed_value.specs.Fixed.{IsFixedByte}
use Rattle.go_bench_text.specs.{Characters.is_black, Fields.{fields_of, fields_of_chars}, Parts.is_stopped}
use Rattle.go_bench_text.proofs.Cutting.{fields-white, fields-first}

at_chars : (xs ys cs : List ℕ) → chars xs ≡ cs → IsUtf8 xs → 0 < length xs → list_all is_black cs ≡ true → is_stopped (chars ys) ≡ true → fields_of (xs ++ ys) ≡ xs ∷ fields_of ys
at_chars xs ys [] e is some black stopped =
    let none : xs ≡ [] = sym (encodes-chars xs is) ∙ ap encode_utf8_all e in
    absurd (omega (arith, ap length none))
at_chars xs ys (c ∷ cs) e is some black stopped =
    let whole : chars (xs ++ ys) ≡ (c ∷ cs) ++ chars ys = chars-append xs ys is ∙ ap (λ (zs : List ℕ). zs ++ chars ys) e in
    ap fields_of_chars whole ∙ (fields-first c cs (chars ys) black stopped ∙ ap (λ (field : List ℕ). field ∷ fields_of ys) (ap encode_utf8_all (sym e) ∙ encodes-chars xs is))

-- a field, up to the end or to white space
pub field_then : (xs ys : List ℕ) → IsUtf8 xs → 0 < length xs → list_all is_black (chars xs) ≡ true → is_stopped (chars ys) ≡ true → fields_of (xs ++ ys) ≡ xs ∷ fields_of ys
field_then xs ys is some black stopped = at_chars xs ys (chars xs) refl is some black stopped

chars_space : chars (32 ∷ []) ≡ 32 ∷ []
unfolding chars
chars_space = refl

space_utf8 : IsUtf8 (32 ∷ [])
space_utf8 = (32 ∷ [], (refl, encode_space)) where
  encode_space : encode_utf8_all (32 ∷ []) ≡ 32 ∷ []
  encode_space = ap (λ (xs : List ℕ). xs ++ []) (encode_ascii 32 (lit< tt))

chars_space_then : (ys : List ℕ) → chars (32 ∷ ys) ≡ 32 ∷ chars ys
chars_space_then ys = chars-append (32 ∷ []) ys space_utf8 ∙ ap (λ (xs : List ℕ). xs ++ chars ys) chars_space

pub space_then : (ys : List ℕ) → fields_of (32 ∷ ys) ≡ fields_of ys
space_then ys = ap fields_of_chars (chars_space_then ys) ∙ fields-white 32 (chars ys) refl

pub stopped_space : (ys : List ℕ) → is_stopped (chars (32 ∷ ys)) ≡ true
stopped_space ys = ap is_stopped (chars_space_then ys)

stopped_none : is_stopped (chars []) ≡ true
stopped_none = ap is_stopped chars-nil

none_left : fields_of [] ≡ []
none_left = ap fields_of_chars chars-nil

ascii_all : (xs : List ℕ) → All (λ b. b < 128) xs → IsAscii xs
ascii_all [] h i = omega (arith, get_or_past {X = ℕ} [] i 0 (omega arith))
ascii_all (x ∷ xs) h zero = h zero 0 (omega arith)
ascii_all (x ∷ xs) h (suc i) = ascii_all xs (λ k d l. h (suc k) d (omega arith)) i

low_byte : (b : ℕ) → nat_lt b 128 ≡ true → b < 128
low_byte b h = grind (arith, nat_tests)

pub ascii_word : (xs : List ℕ) → list_all (λ b. nat_lt b 128) xs ≡ true → IsAscii xs
ascii_word xs e = ascii_all xs (λ k d l. low_byte (get_or xs k d) (AllPass-from_list_all (λ b. nat_lt b 128) xs e k d l))

-- the bytes of a written value
pub ascii_of : (xs : List ℕ) → All IsFixedByte xs → IsAscii xs
ascii_of xs h = ascii_all xs (λ k d l. omega (arith, (h k d l).1))

black_byte : (b : ℕ) → 45 ≤ b → b ≤ 57 → is_black b ≡ true
black_byte b l h = grind (arith, nat_tests)

pub black_of : (xs : List ℕ) → All IsFixedByte xs → list_all is_black (chars xs) ≡ true
black_of xs h = ap (list_all is_black) (chars-IsAscii xs (ascii_of xs h)) ∙ list_all-from_AllPass is_black xs (λ k d l. black_byte (get_or xs k d) (h k d l).0 (h k d l).1)

bench_ascii : IsAscii (codes "Benchmark")
bench_ascii = ascii_word (codes "Benchmark") refl

pub bench_utf8 : IsUtf8 (codes "Benchmark")
bench_utf8 = IsUtf8-from_ascii (codes "Benchmark") bench_ascii

one_utf8 : IsUtf8 (49 ∷ [])
one_utf8 = IsUtf8-from_ascii (49 ∷ []) (ascii_word (49 ∷ []) refl)

bench_black : (name : List ℕ) → list_all is_black (chars name) ≡ true → list_all is_black (chars (codes "Benchmark" ++ name)) ≡ true
bench_black name h =
    ap (list_all is_black) (chars-append (codes "Benchmark") name bench_utf8 ∙ ap (λ (xs : List ℕ). xs ++ chars name) (chars-IsAscii (codes "Benchmark") bench_ascii))
    ∙ (list_all-append is_black (codes "Benchmark") (chars name) ∙ and_from (list_all is_black (codes "Benchmark")) (list_all is_black (chars name)) refl h)

-- what is known of the parts of a result line that is put
pub record MayPut (name fixed metric : List ℕ) : Type 0 where
  pub name_is : IsUtf8 name
  pub name_black : list_all is_black (chars name) ≡ true
  pub fixed_is : All IsFixedByte fixed
  pub fixed_some : 0 < length fixed
  pub metric_is : IsUtf8 metric
  pub metric_black : list_all is_black (chars metric) ≡ true
  pub metric_some : 0 < length metric

-- the fields of the line are the name, `1`, the value and the metric
pub put_fields : (name fixed metric : List ℕ) → MayPut name fixed metric
    → fields_of ((codes "Benchmark" ++ name) ++ (codes " 1 " ++ (fixed ++ 32 ∷ metric))) ≡ (codes "Benchmark" ++ name) ∷ (49 ∷ []) ∷ fixed ∷ metric ∷ []
put_fields name fixed metric may =
    let last : fields_of metric ≡ metric ∷ [] =
    ap fields_of (sym (append-nil metric)) ∙ (field_then metric [] may.metric_is may.metric_some may.metric_black stopped_none ∙ ap (λ (fields : List (List ℕ)). metric ∷ fields) none_left) in
    let third : fields_of (32 ∷ (fixed ++ 32 ∷ metric)) ≡ fixed ∷ metric ∷ [] =
    space_then (fixed ++ 32 ∷ metric) ∙ (field_then fixed (32 ∷ metric) (IsUtf8-from_ascii fixed (ascii_of fixed may.fixed_is)) may.fixed_some (black_of fixed may.fixed_is) (stopped_space metric)
    ∙ ap (λ (fields : List (List ℕ)). fixed ∷ fields) (space_then metric ∙ last)) in
    let second : fields_of (32 ∷ 49 ∷ 32 ∷ (fixed ++ 32 ∷ metric)) ≡ (49 ∷ []) ∷ fixed ∷ metric ∷ [] =
    space_then (49 ∷ 32 ∷ (fixed ++ 32 ∷ metric)) ∙ (field_then (49 ∷ []) (32 ∷ (fixed ++ 32 ∷ metric)) one_utf8 (omega arith) one_black (stopped_space (fixed ++ 32 ∷ metric))
    ∙ ap (λ (fields : List (List ℕ)). (49 ∷ []) ∷ fields) third) in
    field_then (codes "Benchmark" ++ name) (32 ∷ 49 ∷ 32 ∷ (fixed ++ 32 ∷ metric)) (IsUtf8-append (codes "Benchmark") name bench_utf8 may.name_is) (omega arith) (bench_black name may.name_black) (stopped_space (49 ∷ 32 ∷ (fixed ++ 32 ∷ metric)))
    ∙ ap (λ (fields : List (List ℕ)). (codes "Benchmark" ++ name) ∷ fields) second where
      one_black : list_all is_black (chars (49 ∷ [])) ≡ true
      one_black = ap (list_all is_black) (chars-IsAscii (49 ∷ []) (ascii_word (49 ∷ []) refl))
