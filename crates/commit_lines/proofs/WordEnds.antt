-- What ends a word whose first bytes are there: if any bytes make it spell a name, so do some that are tried.
use Rattle.std.proofs.Common.{◌≡◌, ◌≢◌, ℕ, zero, suc, ◌+◌, ◌*◌, ◌/◌, ◌%◌, ◌<◌, ◌≤◌, List, [], ◌∷◌, ◌++◌, length, get_or, take, IsUtf8, inl, inr, refl, sym, ap, ap₂, ◌∙◌, subst, arith, append_assoc}
use Rattle.std.{specs.Char.{digit_value, digit_char}, proofs.lemmas.Bool.cases_eq, proofs.lemmas.Str.digit_value-digit_char, proofs.lemmas.Grind.common_steps}
use Rattle.percent_encoding.specs.Percent.{percent_decode}
use Rattle.percent_encoding.proofs.PercentLemmas.{percent_decode_escape, percent_decode_not_percent, length-percent_decode, percent_decode-nil}
use Rattle.line_text.specs.Names.{IsHexDigit, HasWholeEscapes}
use Rattle.commit_lines.{specs.Ends.{char_end, end_of}, proofs.CharEnds.{Completes, completes}}

-- ---- a byte, or an escape, in front

behind_byte : (b : ℕ) (word : List ℕ) → HasWholeEscapes (b ∷ word) → HasWholeEscapes word
behind_byte b word whole k is =
    let one : suc k + 1 ≡ suc (k + 1) = omega arith in
    let two : suc k + 2 ≡ suc (k + 2) = omega arith in
    let both = whole (suc k) is in
    (subst (λ (n : ℕ). IsHexDigit (get_or (b ∷ word) n 0)) one both.0, subst (λ (n : ℕ). IsHexDigit (get_or (b ∷ word) n 0)) two both.1)

behind_more : (b : ℕ) (word : List ℕ) (k : ℕ) → IsHexDigit (get_or word (k + 1) 0) × IsHexDigit (get_or word (k + 2) 0)
    → IsHexDigit (get_or (b ∷ word) (suc k + 1) 0) × IsHexDigit (get_or (b ∷ word) (suc k + 2) 0)
behind_more b word k both =
    let one : suc (k + 1) ≡ suc k + 1 = omega arith in
    let two : suc (k + 2) ≡ suc k + 2 = omega arith in
    (subst (λ (n : ℕ). IsHexDigit (get_or (b ∷ word) n 0)) one both.0, subst (λ (n : ℕ). IsHexDigit (get_or (b ∷ word) n 0)) two both.1)

before_byte : (b : ℕ) (word : List ℕ) → b ≢ 37 → HasWholeEscapes word → HasWholeEscapes (b ∷ word)
before_byte b word other whole zero is = absurd (other is)
before_byte b word other whole (suc k) is = behind_more b word k (whole k is)

not_percent : (b : ℕ) → IsHexDigit b → b ≢ 37
not_percent b digit is = let never : digit_value 37 < 16 = subst (λ (n : ℕ). digit_value n < 16) is digit in omega arith

before_escape : (b h l : ℕ) (word : List ℕ) → IsHexDigit h → IsHexDigit l → HasWholeEscapes word → HasWholeEscapes (b ∷ h ∷ l ∷ word)
before_escape b h l word high low whole zero is = (high, low)
before_escape b h l word high low whole (suc k) is =
    behind_more b (h ∷ l ∷ word) k (before_byte h (l ∷ word) (not_percent h high) (before_byte l word (not_percent l low) whole) k is)

-- ---- bytes from 128 on

abbrev pub High : List ℕ → Type 0
High [] = Unit {0}
High (b ∷ bytes) = (128 ≤ b) × High bytes

high_take : (n : ℕ) (bytes : List ℕ) → High bytes → High (take n bytes)
high_take zero bytes high = tt
high_take (suc n) [] high = tt
high_take (suc n) (b ∷ bytes) high = (high.0, high_take n bytes high.1)

high_escapes : (bytes : List ℕ) → High bytes → HasWholeEscapes bytes
high_escapes [] high = λ k is. absurd (omega arith)
high_escapes (b ∷ bytes) high = before_byte b bytes (λ is. omega (arith, high.0)) (high_escapes bytes high.1)

high_decode : (bytes : List ℕ) → High bytes → percent_decode bytes ≡ bytes
high_decode [] high = percent_decode-nil
high_decode (b ∷ bytes) high = percent_decode_not_percent b bytes (λ is. omega (arith, high.0)) ∙ ap (λ (l : List ℕ). b ∷ l) (high_decode bytes high.1)

pub char_high : (n : ℕ) → High (char_end n)
char_high n = high_take (n % 4) ((128 + 16 * (n / 4)) ∷ 128 ∷ 128 ∷ []) (omega arith, (omega arith, (omega arith, tt)))

-- ---- the ends that are enough

-- one of the ends that are tried
pub record TriedEnd : Type 0 where
  pub count : ℕ
  pub value : ℕ
  pub number : ℕ
  pub few_digits : count < 3
  pub few_values : value < 256
  pub few_numbers : number < 12

abbrev pub bytes_of : TriedEnd → List ℕ
bytes_of end = end_of end.count end.value end.number

pub record WordEnds (front word more : List ℕ) : Type 0 where
  pub end : TriedEnd
  pub short : length (bytes_of end) ≤ length more
  pub escapes : HasWholeEscapes (word ++ bytes_of end)
  pub text : IsUtf8 (front ++ percent_decode (word ++ bytes_of end))
  pub few : length (percent_decode (word ++ bytes_of end)) ≤ length (percent_decode (word ++ more))

-- some bytes that stand for one byte in front
onto : (front part word more : List ℕ) (x : ℕ) → ((rest : List ℕ) → percent_decode (part ++ rest) ≡ x ∷ percent_decode rest)
    → ((rest : List ℕ) → HasWholeEscapes rest → HasWholeEscapes (part ++ rest)) → WordEnds (front ++ x ∷ []) word more → WordEnds front (part ++ word) more
onto front part word more x decodes escapes rest =
    let end : List ℕ = bytes_of rest.end in
    let is : percent_decode ((part ++ word) ++ end) ≡ x ∷ percent_decode (word ++ end) = ap percent_decode (append_assoc part word end) ∙ decodes (word ++ end) in
    let all : percent_decode ((part ++ word) ++ more) ≡ x ∷ percent_decode (word ++ more) = ap percent_decode (append_assoc part word more) ∙ decodes (word ++ more) in
    let one : length (percent_decode ((part ++ word) ++ end)) ≡ length (x ∷ percent_decode (word ++ end)) = ap (λ (l : List ℕ). length l) is in
    let two : length (percent_decode ((part ++ word) ++ more)) ≡ length (x ∷ percent_decode (word ++ more)) = ap (λ (l : List ℕ). length l) all in
    record {
      end = rest.end;
      short = rest.short;
      escapes = subst HasWholeEscapes (sym (append_assoc part word end)) (escapes (word ++ end) rest.escapes);
      text = subst IsUtf8 (append_assoc front (x ∷ []) (percent_decode (word ++ end)) ∙ ap (λ (l : List ℕ). front ++ l) (sym is)) rest.text;
      few = omega (arith, rest.few);
    }

-- a text in front of bytes that a byte begins
text_in : (front bytes whole : List ℕ) (x : ℕ) → whole ≡ x ∷ bytes → IsUtf8 (front ++ whole) → IsUtf8 ((front ++ x ∷ []) ++ bytes)
text_in front bytes whole x is text = subst IsUtf8 (ap (λ (l : List ℕ). front ++ l) is ∙ sym (append_assoc front (x ∷ []) bytes)) text

-- nothing is behind the word
of_none : (front more : List ℕ) → IsUtf8 (front ++ percent_decode more) → WordEnds front [] more
of_none front more text =
    let done = completes front (percent_decode more) text in
    let is : percent_decode (char_end done.number) ≡ char_end done.number = high_decode (char_end done.number) (char_high done.number) in
    let same : length (percent_decode (char_end done.number)) ≡ length (char_end done.number) = ap (λ (l : List ℕ). length l) is in
    record {
      end = record { count = 0; value = 0; number = done.number; few_digits = omega arith; few_values = omega arith; few_numbers = done.few };
      short = omega (arith, done.short, (length-percent_decode more).0);
      escapes = high_escapes (char_end done.number) (char_high done.number);
      text = subst (λ (l : List ℕ). IsUtf8 (front ++ l)) (sym is) done.text;
      few = omega (arith, done.short);
    }

-- ---- an escape that has begun

digit_is : (d : ℕ) → d < 16 → digit_value (digit_char d) ≡ d
digit_is d small = digit_value-digit_char d (omega arith)

-- what ends a text behind the byte of an escape, ends it behind another spelling of the byte
of_escape : (front more : List ℕ) (h l : ℕ) → IsHexDigit h → IsHexDigit l → IsUtf8 (front ++ percent_decode (37 ∷ h ∷ l ∷ more))
    → Completes (front ++ (16 * digit_value h + digit_value l) ∷ []) (percent_decode more)
of_escape front more h l high low text = grind (arith, common_steps, completes, digit_value, text_in, percent_decode_escape)

record Spelled (front more : List ℕ) (h l : ℕ) (digit other : ℕ) (number : ℕ) : Type 0 where
  escapes : HasWholeEscapes (37 ∷ digit ∷ other ∷ char_end number)
  text : IsUtf8 (front ++ percent_decode (37 ∷ digit ∷ other ∷ char_end number))
  few : length (percent_decode (37 ∷ digit ∷ other ∷ char_end number)) ≤ length (percent_decode (37 ∷ h ∷ l ∷ more))

spelled : (front more : List ℕ) (h l digit other : ℕ) → IsHexDigit h → IsHexDigit l → digit_value digit ≡ digit_value h → digit_value other ≡ digit_value l
    → (done : Completes (front ++ (16 * digit_value h + digit_value l) ∷ []) (percent_decode more)) → Spelled front more h l digit other done.number
spelled front more h l digit other high low one two done =
    let byte : ℕ = 16 * digit_value h + digit_value l in
    let end : List ℕ = char_end done.number in
    let first : IsHexDigit digit = omega arith in
    let second : IsHexDigit other = omega arith in
    let same : 16 * digit_value digit + digit_value other ≡ byte = omega arith in
    let is : percent_decode (37 ∷ digit ∷ other ∷ end) ≡ byte ∷ end =
    percent_decode_escape 37 digit other end refl first second ∙ ap₂ (λ (n : ℕ) (l : List ℕ). n ∷ l) same (high_decode end (char_high done.number)) in
    let count : length (percent_decode (37 ∷ digit ∷ other ∷ end)) ≡ length (byte ∷ end) = ap (λ (l : List ℕ). length l) is in
    let all : length (percent_decode (37 ∷ h ∷ l ∷ more)) ≡ length (byte ∷ percent_decode more) = ap (λ (l : List ℕ). length l) (percent_decode_escape 37 h l more refl high low) in
    record {
      escapes = before_escape 37 digit other end first second (high_escapes end (char_high done.number));
      text = subst IsUtf8 (append_assoc front (byte ∷ []) end ∙ ap (λ (l : List ℕ). front ++ l) (sym is)) done.text;
      few = omega (arith, done.short);
    }

of_percent : (front more : List ℕ) (h l : ℕ) → IsHexDigit h → IsHexDigit l → IsUtf8 (front ++ percent_decode (37 ∷ h ∷ l ∷ more)) → WordEnds front (37 ∷ []) (h ∷ l ∷ more)
of_percent front more h l high low text =
    let done = of_escape front more h l high low text in
    let value : ℕ = 16 * digit_value h + digit_value l in
    let one : value / 16 % 16 ≡ digit_value h = omega arith in
    let two : value % 16 ≡ digit_value l = omega arith in
    let first : digit_value (digit_char (value / 16 % 16)) ≡ digit_value h = digit_is (value / 16 % 16) (omega arith) ∙ one in
    let second : digit_value (digit_char (value % 16)) ≡ digit_value l = digit_is (value % 16) (omega arith) ∙ two in
    let is = spelled front more h l (digit_char (value / 16 % 16)) (digit_char (value % 16)) high low first second done in
    record { end = record { count = 2; value = value; number = done.number; few_digits = omega arith; few_values = omega arith; few_numbers = done.few }; short = omega (arith, done.short, (length-percent_decode more).0); escapes = is.escapes; text = is.text; few = is.few }

of_digit : (front more : List ℕ) (h l : ℕ) → IsHexDigit h → IsHexDigit l → IsUtf8 (front ++ percent_decode (37 ∷ h ∷ l ∷ more)) → WordEnds front (37 ∷ h ∷ []) (l ∷ more)
of_digit front more h l high low text =
    let done = of_escape front more h l high low text in
    let two : digit_value l % 16 ≡ digit_value l = omega arith in
    let second : digit_value (digit_char (digit_value l % 16)) ≡ digit_value l = digit_is (digit_value l % 16) (omega arith) ∙ two in
    let is = spelled front more h l h (digit_char (digit_value l % 16)) high low refl second done in
    record { end = record { count = 1; value = digit_value l; number = done.number; few_digits = omega arith; few_values = omega arith; few_numbers = done.few }; short = omega (arith, done.short, (length-percent_decode more).0); escapes = is.escapes; text = is.text; few = is.few }

no_digit : IsHexDigit 0 → ⊥
no_digit digit = omega arith

-- ---- any word

-- how a word is ended, behind any text
abbrev Ended : List ℕ → List ℕ → Type 0
Ended word more = (front : List ℕ) → HasWholeEscapes (word ++ more) → IsUtf8 (front ++ percent_decode (word ++ more)) → WordEnds front word more

none_ended : (more : List ℕ) → Ended [] more
none_ended more front whole text = of_none front more text

byte_ended : (b : ℕ) (word more : List ℕ) → b ≢ 37 → Ended word more → Ended (b ∷ word) more
byte_ended b word more other rest front whole text =
    onto front (b ∷ []) word more b (λ behind. percent_decode_not_percent b behind other) (λ behind. before_byte b behind other)
    (rest (front ++ b ∷ []) (behind_byte b (word ++ more) whole)
    (text_in front (percent_decode (word ++ more)) (percent_decode (b ∷ (word ++ more))) b (percent_decode_not_percent b (word ++ more) other) text))

percent_ended : (more : List ℕ) → Ended (37 ∷ []) more
percent_ended [] front whole text = absurd (no_digit (whole 0 refl).0)
percent_ended (h ∷ []) front whole text = absurd (no_digit (whole 0 refl).1)
percent_ended (h ∷ l ∷ more) front whole text = of_percent front more h l (whole 0 refl).0 (whole 0 refl).1 text

digit_ended : (h : ℕ) (more : List ℕ) → Ended (37 ∷ h ∷ []) more
digit_ended h [] front whole text = absurd (no_digit (whole 0 refl).1)
digit_ended h (l ∷ more) front whole text = of_digit front more h l (whole 0 refl).0 (whole 0 refl).1 text

escape_ended : (h l : ℕ) (word more : List ℕ) → Ended word more → Ended (37 ∷ h ∷ l ∷ word) more
escape_ended h l word more rest front whole text =
    let high : IsHexDigit h = (whole 0 refl).0 in
    let low : IsHexDigit l = (whole 0 refl).1 in
    let byte : ℕ = 16 * digit_value h + digit_value l in
    let behind : HasWholeEscapes (word ++ more) =
    behind_byte l (word ++ more) (behind_byte h (l ∷ (word ++ more)) (behind_byte 37 (h ∷ l ∷ (word ++ more)) whole)) in
    onto front (37 ∷ h ∷ l ∷ []) word more byte (λ next. percent_decode_escape 37 h l next refl high low) (λ next. before_escape 37 h l next high low)
    (rest (front ++ byte ∷ []) behind
    (text_in front (percent_decode (word ++ more)) (percent_decode (37 ∷ h ∷ l ∷ (word ++ more))) byte (percent_decode_escape 37 h l (word ++ more) refl high low) text))

pub word_ends : (word more : List ℕ) → Ended word more
word_ends [] more = none_ended more
word_ends (b ∷ []) more = elim (cases_eq b 37) [
  | inl is ↦ subst (λ (n : ℕ). Ended (n ∷ []) more) (sym is) (percent_ended more)
  | inr other ↦ byte_ended b [] more other (none_ended more)
]
word_ends (b ∷ h ∷ []) more = grind (arith, common_steps, cases_eq, digit_ended, byte_ended, word_ends (h ∷ []) more)
word_ends (b ∷ h ∷ l ∷ word) more = elim (cases_eq b 37) [
  | inl is ↦ subst (λ (n : ℕ). Ended (n ∷ h ∷ l ∷ word) more) (sym is) (escape_ended h l word more (word_ends word more))
  | inr other ↦ byte_ended b (h ∷ l ∷ word) more other (word_ends (h ∷ l ∷ word) more)
]
