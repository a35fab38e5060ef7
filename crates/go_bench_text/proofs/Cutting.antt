-- How the characters of a text are cut into fields.
use Rattle.std.proofs.Common.{◌≡◌, ◌≢◌, ℕ, zero, suc, ◌<◌, Bool, true, false, cond, List, [], ◌∷◌, ◌++◌, length, map, filter, refl, sym, ◌∙◌, ap, subst, arith}
use Rattle.std.{specs.Char.is_whitespace, specs.List.{slice_split, list_all, All}, proofs.lemmas.Grind.common_steps}
use Rattle.std.{specs.Str.{chars, encode_utf8_all, all_scalars, IsUtf8, trim_start, skip_leading_whitespace}, proofs.lemmas.Bool.{not-true, and_parts}}
use Rattle.std.proofs.lemmas.{Str.{chars-encodes, chars-append, encodes-chars, encodes_same, scalars-chars, chars-nil}, List.{append-nil, nil_from_length}}
use Rattle.std.proofs.lemmas.{List.Splits.{slice_split-cons_yes, slice_split_none, slice_split_at}, Bool.Decides.nat_tests}
use Rattle.go_bench_text.specs.{Characters.is_black, Fields.{is_field, fields_of_chars, fields_of}, Parts.is_stopped}

-- white space in front parts nothing
pub fields-white : (c : ℕ) (cs : List ℕ) → is_whitespace c ≡ true → fields_of_chars (c ∷ cs) ≡ fields_of_chars cs
fields-white c cs h = ap (λ (parts : List (List ℕ)). map encode_utf8_all (filter is_field parts)) (slice_split-cons_yes is_whitespace c cs h)

skipped : (c : ℕ) (cs : List ℕ) (white : Bool) → is_whitespace c ≡ white → fields_of_chars (skip_leading_whitespace cs) ≡ fields_of_chars cs
    → fields_of_chars (cond white (skip_leading_whitespace cs) (c ∷ cs)) ≡ fields_of_chars (c ∷ cs)
skipped c cs white h rest = grind (arith, common_steps)

pub fields-skip : (cs : List ℕ) → fields_of_chars (skip_leading_whitespace cs) ≡ fields_of_chars cs
fields-skip [] = refl
fields-skip (c ∷ cs) = skipped c cs (is_whitespace c) refl (fields-skip cs)

scalars_skipped : (c : ℕ) (cs : List ℕ) (white : Bool) → all_scalars (c ∷ cs) ≡ true → all_scalars (skip_leading_whitespace cs) ≡ true
    → all_scalars (cond white (skip_leading_whitespace cs) (c ∷ cs)) ≡ true
scalars_skipped c cs white h rest = grind (arith, common_steps)

pub scalars-skip : (cs : List ℕ) → all_scalars cs ≡ true → all_scalars (skip_leading_whitespace cs) ≡ true
scalars-skip [] h = refl
scalars-skip (c ∷ cs) h = scalars_skipped c cs (is_whitespace c) h (scalars-skip cs ((and_parts _ (all_scalars cs) h).1))

stopped_skip : (c : ℕ) (cs : List ℕ) (white : Bool) → is_whitespace c ≡ white → (is_stopped (skip_leading_whitespace cs) ≡ true → skip_leading_whitespace cs ≡ [])
    → is_stopped (cond white (skip_leading_whitespace cs) (c ∷ cs)) ≡ true → cond white (skip_leading_whitespace cs) (c ∷ cs) ≡ []
stopped_skip c cs white h rest stopped = grind (arith, common_steps)

-- what follows the white space doesn't begin with any
pub skip_stops : (cs : List ℕ) → is_stopped (skip_leading_whitespace cs) ≡ true → skip_leading_whitespace cs ≡ []
skip_stops [] h = refl
skip_stops (c ∷ cs) h = stopped_skip c cs (is_whitespace c) refl (skip_stops cs) h

all_black : (xs : List ℕ) → list_all is_black xs ≡ true → All (λ x. is_whitespace x ≡ false) xs
all_black [] h k d l = absurd (omega arith)
all_black (x ∷ xs) h zero d l = not-true (is_whitespace x) ((and_parts (is_black x) (list_all is_black xs) h).0)
all_black (x ∷ xs) h (suc k) d l = all_black xs ((and_parts (is_black x) (list_all is_black xs) h).1) k d (omega arith)

has_some : (x : ℕ) (xs : List ℕ) → is_field (x ∷ xs) ≡ true
has_some x xs = grind (arith, nat_tests)

kept : (x : ℕ) (xs : List ℕ) (parts : List (List ℕ)) → map encode_utf8_all (filter is_field ((x ∷ xs) ∷ parts)) ≡ encode_utf8_all (x ∷ xs) ∷ map encode_utf8_all (filter is_field parts)
kept x xs parts = ap (λ (b : Bool). map encode_utf8_all (cond b ((x ∷ xs) ∷ filter is_field parts) (filter is_field parts))) (has_some x xs)

-- characters other than white space, up to the end or to white space, are the first field
pub fields-first : (x : ℕ) (xs ys : List ℕ) → list_all is_black (x ∷ xs) ≡ true → is_stopped ys ≡ true
    → fields_of_chars ((x ∷ xs) ++ ys) ≡ encode_utf8_all (x ∷ xs) ∷ fields_of_chars ys
fields-first x xs [] h stopped =
    ap fields_of_chars (append-nil (x ∷ xs)) ∙ (ap (λ (parts : List (List ℕ)). map encode_utf8_all (filter is_field parts)) (slice_split_none is_whitespace (x ∷ xs) (all_black (x ∷ xs) h)) ∙ kept x xs [])
fields-first x xs (y ∷ ys) h stopped =
    ap (λ (parts : List (List ℕ)). map encode_utf8_all (filter is_field parts)) (slice_split_at is_whitespace (x ∷ xs) y ys (all_black (x ∷ xs) h) stopped)
    ∙ (kept x xs (slice_split is_whitespace ys) ∙ ap (λ (more : List (List ℕ)). encode_utf8_all (x ∷ xs) ∷ more) (sym (fields-white y ys stopped)))

chars_next : (cs xs ys : List ℕ) → skip_leading_whitespace cs ≡ xs ++ ys → skip_leading_whitespace cs ≢ [] → list_all is_black xs ≡ true → is_stopped ys ≡ true
    → (fields_of_chars cs ≡ encode_utf8_all xs ∷ fields_of_chars ys) × (xs ≢ [])
chars_next cs [] ys e some black stopped = absurd (some (skip_stops cs (subst (λ (zs : List ℕ). is_stopped zs ≡ true) (sym e) stopped)))
chars_next cs (x ∷ xs) ys e some black stopped =
    (sym (fields-skip cs) ∙ (ap fields_of_chars e ∙ fields-first x xs ys black stopped), λ h. cc)

-- a text without the white space in front, as characters
chars-trim : (text : List ℕ) → IsUtf8 text → chars (trim_start text) ≡ skip_leading_whitespace (chars text)
unfolding trim_start
chars-trim text is = chars-encodes (skip_leading_whitespace (chars text)) (scalars-skip (chars text) (scalars-chars text is))

encodes-trim : (text : List ℕ) → trim_start text ≡ encode_utf8_all (skip_leading_whitespace (chars text))
unfolding trim_start
encodes-trim text = refl

no_chars : (text : List ℕ) → skip_leading_whitespace (chars text) ≡ [] → trim_start text ≡ []
no_chars text h = encodes-trim text ∙ ap encode_utf8_all h

some_bytes : (xs : List ℕ) → IsUtf8 xs → chars xs ≢ [] → 0 < length xs
some_bytes xs is h = grind (arith, common_steps, chars-nil)

-- what a cut of the text behind its white space says of its fields
pub record IsNext (text field more : List ℕ) : Type 0 where
  pub fields : fields_of text ≡ field ∷ fields_of more
  pub some : 0 < length field

pub next_is : (text from xs ys : List ℕ) → IsUtf8 text → from ≡ trim_start text → length from ≢ 0 → from ≡ xs ++ ys → IsUtf8 xs → IsUtf8 ys
    → list_all is_black (chars xs) ≡ true → is_stopped (chars ys) ≡ true → IsNext text xs ys
next_is text from xs ys is trimmed some joined front back black stopped =
    let cut : skip_leading_whitespace (chars text) ≡ chars xs ++ chars ys = sym (chars-trim text is) ∙ (ap chars (sym trimmed ∙ joined) ∙ chars-append xs ys front) in
    let there : skip_leading_whitespace (chars text) ≢ [] = λ none. some (ap length (trimmed ∙ no_chars text none)) in
    let next = chars_next (chars text) (chars xs) (chars ys) cut there black stopped in
    record {
      fields = next.0 ∙ ap (λ (field : List ℕ). field ∷ fields_of ys) (encodes-chars xs front);
      some = some_bytes xs front next.1;
    }

-- a text of white space alone has no fields
pub none_is : (text from : List ℕ) → IsUtf8 text → from ≡ trim_start text → length from ≡ 0 → fields_of text ≡ []
none_is text from is trimmed none =
    let empty : encode_utf8_all (skip_leading_whitespace (chars text)) ≡ encode_utf8_all [] = sym (encodes-trim text) ∙ (sym trimmed ∙ nil_from_length from none) in
    sym (fields-skip (chars text)) ∙ ap fields_of_chars (encodes_same (skip_leading_whitespace (chars text)) [] empty)
