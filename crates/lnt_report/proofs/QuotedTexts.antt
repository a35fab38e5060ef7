-- The text of bytes is one of JSON that spells them, and is UTF-8 where they are.
use Rattle.std.proofs.Common.{◌≡◌, ℕ, zero, suc, ◌/◌, ◌%◌, ◌<◌, ◌≤◌, Bool, true, false, cond, not, ◌&&◌, ◌||◌, ◌==◌, nat_lt, List, [], ◌∷◌, ◌++◌, length, get_or, inl, inr, refl, sym, ap₂, subst, arith, append-nil, ltb-true}
use Rattle.std.{specs.Str.{IsUtf8, IsAscii}, specs.Fmt.digit_glyph, specs.List.flat_map, proofs.Math.Utf8.{encode, encodes, scalar, scalars}}
use Rattle.std.proofs.lemmas.Bool.{agree_below, agree_below_at, and_parts, cases_lt, cases_eq, lt-ltb, le-ltb, eqb-true, Decides.nat_tests}
use Rattle.std.proofs.lemmas.{Grind.{flat_map-append, common_steps}, Str.{IsUtf8-append, IsUtf8-nil, IsUtf8-encode, IsUtf8-from_ascii, encode_ascii, inside_one}}
use Rattle.json_text.specs.{Classes.{is_plain, is_hex, unit_of, is_surrogate}, Grammar.{IsUnit, IsCharacter, IsQuoted, Spells, nothing, further}}
use Rattle.lnt_report.specs.Quoted.{code_escape, escape, quoted}

-- ---- what a byte's escape spells

-- of a byte below 32: both digits are hex digits, they give the byte, and it is no surrogate
abbrev first_digit : ℕ → Bool
first_digit b = is_hex (digit_glyph false (b / 16))

abbrev last_digit : ℕ → Bool
last_digit b = is_hex (digit_glyph false (b % 16))

abbrev gives : ℕ → Bool
gives b = b == unit_of 48 48 (digit_glyph false (b / 16)) (digit_glyph false (b % 16))

abbrev stands : ℕ → Bool
stands b = not (is_surrogate b)

code_spells : (b : ℕ) → b < 32 → IsCharacter (code_escape b) (b ∷ [])
code_spells b low =
    let always : ℕ → Bool = λ _. true in
    let first : first_digit b ≡ true = agree_below_at first_digit always 32 b refl low in
    let last : last_digit b ≡ true = agree_below_at last_digit always 32 b refl low in
    let given : gives b ≡ true = agree_below_at gives always 32 b refl low in
    let alone : stands b ≡ true = agree_below_at stands always 32 b refl low in
    let is : b ≡ unit_of 48 48 (digit_glyph false (b / 16)) (digit_glyph false (b % 16)) = eqb-true _ _ given in
    let unit : IsUnit (code_escape b) b = (48, 48, digit_glyph false (b / 16), digit_glyph false (b % 16), refl, refl, refl, first, last, is) in
    inr (inr (inl (b, unit, alone, sym (encode_ascii b (omega arith)))))

escape_spells : (b : ℕ) → IsCharacter (escape b) (b ∷ [])
escape_spells b = elim (cases_eq b 34) [
  | inl quote ↦ subst (λ c. IsCharacter (escape c) (c ∷ [])) (sym quote) (inr (inl (34, 34, refl, refl, refl)))
  | inr no_quote ↦ elim (cases_eq b 92) [
    | inl slash ↦ subst (λ c. IsCharacter (escape c) (c ∷ [])) (sym slash) (inr (inl (92, 92, refl, refl, refl)))
    | inr no_slash ↦
        let unmarked : ((b == 34) || (b == 92)) ≡ false = grind (arith, nat_tests) in
        subst (λ t. IsCharacter (cond t (92 ∷ b ∷ []) (cond (nat_lt b 32) (code_escape b) (b ∷ []))) (b ∷ [])) (sym unmarked)
        (elim (cases_lt b 32) [
          | inl low ↦ subst (λ t. IsCharacter (cond t (code_escape b) (b ∷ [])) (b ∷ [])) (sym (lt-ltb _ _ low)) (code_spells b low)
          | inr high ↦
              let plain : is_plain b ≡ true = grind (arith, nat_tests) in
              subst (λ t. IsCharacter (cond t (code_escape b) (b ∷ [])) (b ∷ [])) (sym (le-ltb _ _ high)) (inl (b, refl, refl, plain))
        ])
  ]
]

escaped_spells : (content : List ℕ) → Spells (flat_map escape content) content
escaped_spells [] = nothing
escaped_spells (b ∷ content) = further (escape_spells b) (escaped_spells content) refl refl

pub quoted-is : (content : List ℕ) → IsUtf8 content → IsQuoted (quoted content) content
quoted-is content utf8 = (flat_map escape content, refl, escaped_spells content)

-- ---- UTF-8

abbrev pub are_ascii : List ℕ → Bool
are_ascii [] = true
are_ascii (b ∷ bytes) = nat_lt b 128 && are_ascii bytes

ascii_at : (bytes : List ℕ) → are_ascii bytes ≡ true → IsAscii bytes
ascii_at [] are i = omega arith
ascii_at (b ∷ bytes) are zero = ltb-true _ _ (and_parts _ _ are).0
ascii_at (b ∷ bytes) are (suc i) = ascii_at bytes (and_parts _ _ are).1 i

pub ascii_is_utf8 : (bytes : List ℕ) → are_ascii bytes ≡ true → IsUtf8 bytes
ascii_is_utf8 bytes are = IsUtf8-from_ascii bytes (ascii_at bytes are)

low_ascii : agree_below (λ b. are_ascii (escape b)) (λ _. true) 128 ≡ true
low_ascii = refl

high_same : (b : ℕ) → 128 ≤ b → escape b ≡ b ∷ []
high_same b high = grind (arith, common_steps)

escaped_high : (bytes : List ℕ) → ((k : ℕ) → k < length bytes → 128 ≤ get_or bytes k 0) → flat_map escape bytes ≡ bytes
escaped_high [] high = refl
escaped_high (b ∷ bytes) high =
    ap₂ (λ (one more : List ℕ). one ++ more) (high_same b (high 0 (omega arith))) (escaped_high bytes (λ k below. high (suc k) (omega arith)))

one_character : (c : ℕ) → scalar c ≡ true → IsUtf8 (flat_map escape (encode c))
one_character c is = elim (cases_lt c 128) [
  | inl low ↦ rw (encode_ascii c low, append-nil) (ascii_is_utf8 (escape c) (agree_below_at (λ b. are_ascii (escape b)) (λ _. true) 128 c low_ascii low))
  | inr big ↦
      let high : (k : ℕ) → k < length (encode c) → 128 ≤ get_or (encode c) k 0 = λ k below. elim (cases_lt (get_or (encode c) k 0) 128) [
        | inl low ↦ absurd (omega (arith, inside_one c [] (encode c) k (sym (append-nil _)) below low))
        | inr h ↦ h
      ] in
      subst IsUtf8 (sym (escaped_high (encode c) high)) (IsUtf8-encode c is)
]

characters : (cs : List ℕ) → scalars cs ≡ true → IsUtf8 (flat_map escape (encodes cs))
characters [] are = IsUtf8-nil
characters (c ∷ cs) are =
    let parts = and_parts _ _ are in
    subst IsUtf8 (sym (flat_map-append escape (encode c) (encodes cs))) (IsUtf8-append _ _ (one_character c parts.0) (characters cs parts.1))

pub quoted-utf8 : (content : List ℕ) → IsUtf8 content → IsUtf8 (quoted content)
quoted-utf8 content utf8 =
    let inside : IsUtf8 (flat_map escape content) = subst (λ bytes. IsUtf8 (flat_map escape bytes)) utf8.1.1 (characters utf8.0 utf8.1.0) in
    let mark : IsUtf8 (34 ∷ []) = ascii_is_utf8 (34 ∷ []) refl in
    IsUtf8-append (34 ∷ []) _ mark (IsUtf8-append _ _ inside mark)
