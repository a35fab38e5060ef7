-- White space in front of a text, byte by byte.
use Rattle.std.proofs.Common.{◌≡◌, ℕ, zero, suc, ◌<◌, ◌≤◌, get_or, cond, List, [], ◌∷◌, ◌++◌, length, drop, refl, sym, ◌∙◌, ap, arith}
use Rattle.std.{specs.Str.{chars, IsUtf8, trim_start, encode_utf8_all, skip_leading_whitespace}, proofs.lemmas.Grind.common_steps}
use Rattle.std.proofs.lemmas.Str.{IsUtf8-drop, IsCharBoundary-after_ascii, encode_ascii, chars_past_char, encodes-chars}
use Rattle.go_bench_text.specs.Parts.{IsBlackByte, IsWhiteByte}

-- behind a byte of ASCII a text goes on
behind : (b : ℕ) (rest : List ℕ) → b < 128 → IsUtf8 (b ∷ rest) → IsUtf8 rest
behind b rest low is = IsUtf8-drop (b ∷ rest) 1 is (IsCharBoundary-after_ascii (b ∷ rest) 0 is (omega arith) low)

-- which is its first character
first : (b : ℕ) (rest : List ℕ) → b < 128 → IsUtf8 (b ∷ rest) → chars (b ∷ rest) ≡ b ∷ chars rest
first b rest low is = chars_past_char (b ∷ rest) rest b is (ap (λ (xs : List ℕ). xs ++ rest) (sym (encode_ascii b low)))

-- the text is no longer trimmed by this
trimmed : (text : List ℕ) → trim_start text ≡ encode_utf8_all (skip_leading_whitespace (chars text))
unfolding trim_start
trimmed text = refl

past_one : (b : ℕ) (rest : List ℕ) → IsWhiteByte b → IsUtf8 (b ∷ rest) → trim_start (b ∷ rest) ≡ trim_start rest
past_one b rest white is = grind (arith, common_steps, trimmed, first, cond)

-- white space in front of the rest
pub record IsPast (text rest : List ℕ) : Type 0 where
  pub same : trim_start text ≡ trim_start rest
  pub is : IsUtf8 rest

pub past_white : (text : List ℕ) (n : ℕ) → IsUtf8 text → n ≤ length text → ((k : ℕ) → k < n → IsWhiteByte (get_or text k 0)) → IsPast text (drop n text)
past_white text zero is within white = record { same = refl; is = is }
past_white [] (suc n) is within white = absurd (omega arith)
past_white (b ∷ rest) (suc n) is within white =
    let here : IsWhiteByte b = white 0 (omega arith) in
    let more = past_white rest n (behind b rest here.0 is) (omega arith) (λ k l. white (suc k) (omega arith)) in
    record { same = past_one b rest here is ∙ more.same; is = more.is }

-- nothing is trimmed in front of a byte of ASCII that is no white space
black_first : (b : ℕ) (rest : List ℕ) → IsBlackByte b → IsUtf8 (b ∷ rest) → trim_start (b ∷ rest) ≡ b ∷ rest
black_first b rest black is = grind (arith, common_steps, trimmed, first, cond, encodes-chars)

pub black_start : (text : List ℕ) → 0 < length text → IsBlackByte (get_or text 0 0) → IsUtf8 text → trim_start text ≡ text
black_start text some black is = grind (arith, common_steps, black_first)
