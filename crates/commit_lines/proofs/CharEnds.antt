-- What ends a text whose first bytes are there: a character that has begun is ended by the least bytes that it may have.
use Rattle.std.proofs.lemmas.{Grind.common_steps, Bool.{and_parts, cases_lt, lt-ltb, le-ltb}, Str.{IsUtf8-append, IsUtf8-nil, IsUtf8-encode, encode_ascii}}
use Rattle.std.proofs.Common.{◌≡◌, ℕ, ◌+◌, ◌*◌, ◌/◌, ◌%◌, ◌<◌, ◌≤◌, ◌⊎◌, true, List, [], ◌∷◌, ◌++◌, length, IsUtf8, inl, inr, refl, sym, ap, ap₂, ◌∙◌, subst, arith, append_assoc}
use Rattle.commit_lines.specs.Ends.{char_end}
use lib.Utf8.{scalar, scalars, encode, encodes}

two : (c : ℕ) → 128 ≤ c → c < 2_048 → encode c ≡ (192 + c / 64) ∷ (128 + c % 64) ∷ []
unfolding encode
two c low high = rw (le-ltb c 128 low, lt-ltb c 2_048 high) refl

three : (c : ℕ) → 2_048 ≤ c → c < 65_536 → encode c ≡ (224 + c / 4_096) ∷ (128 + c / 64 % 64) ∷ (128 + c % 64) ∷ []
unfolding encode
three c low high = rw (le-ltb c 128 (omega arith), le-ltb c 2_048 low, lt-ltb c 65_536 high) refl

four : (c : ℕ) → 65_536 ≤ c → encode c ≡ (240 + c / 262_144) ∷ (128 + c / 4_096 % 64) ∷ (128 + c / 64 % 64) ∷ (128 + c % 64) ∷ []
unfolding encode
four c low = rw (le-ltb c 128 (omega arith), le-ltb c 2_048 (omega arith), le-ltb c 65_536 low) refl

-- some bytes are those of a character
abbrev IsChar : List ℕ → Type 0
IsChar bytes = (c : ℕ) × (scalar c ≡ true) × (encode c ≡ bytes)

is_text : (bytes : List ℕ) → IsChar bytes → IsUtf8 bytes
is_text bytes (c, ok, is) = subst IsUtf8 is (IsUtf8-encode c ok)

-- a scalar whose last bits are none
cut_scalar : (c less : ℕ) → scalar c ≡ true → less ≤ c → (57_344 ≤ c → 57_344 ≤ less) → scalar less ≡ true
cut_scalar c less ok few high = grind (arith, common_steps)

last_of_two : (c : ℕ) → scalar c ≡ true → 128 ≤ c → c < 2_048 → IsChar ((192 + c / 64) ∷ 128 ∷ [])
last_of_two c ok low high =
    let less : ℕ = c / 64 * 64 in (
      less,
      cut_scalar c less ok (omega arith) (λ far. omega arith),
      two less (omega arith) (omega arith)
          ∙ ap₂ (λ (x y : ℕ). x ∷ y ∷ []) (let same : 192 + less / 64 ≡ 192 + c / 64 = omega arith in same) (let none : 128 + less % 64 ≡ 128 = omega arith in none),
    )

three_are : (less x y z : ℕ) → scalar less ≡ true → 2_048 ≤ less → less < 65_536 → 224 + less / 4_096 ≡ x → 128 + less / 64 % 64 ≡ y → 128 + less % 64 ≡ z → IsChar (x ∷ y ∷ z ∷ [])
three_are less x y z ok low high a b d = (less, ok, three less low high ∙ ap (λ (n : ℕ). n ∷ (128 + less / 64 % 64) ∷ (128 + less % 64) ∷ []) a ∙ ap₂ (λ (m n : ℕ). x ∷ m ∷ n ∷ []) b d)

four_are : (less w x y z : ℕ) → scalar less ≡ true → 65_536 ≤ less → 240 + less / 262_144 ≡ w → 128 + less / 4_096 % 64 ≡ x → 128 + less / 64 % 64 ≡ y → 128 + less % 64 ≡ z
    → IsChar (w ∷ x ∷ y ∷ z ∷ [])
four_are less w x y z ok low a b d e = grind (arith, common_steps, four, ap₂)

last_of_three : (c : ℕ) → scalar c ≡ true → 2_048 ≤ c → c < 65_536 → IsChar ((224 + c / 4_096) ∷ (128 + c / 64 % 64) ∷ 128 ∷ [])
last_of_three c ok low high =
    let less : ℕ = c / 64 * 64 in
    three_are less _ _ _ (cut_scalar c less ok (omega arith) (λ far. omega arith)) (omega arith) (omega arith) (omega arith) (omega arith) (omega arith)

first_of_three : (c : ℕ) → scalar c ≡ true → 2_048 ≤ c → c < 65_536 → IsChar ((224 + c / 4_096) ∷ 128 ∷ 128 ∷ []) ⊎ IsChar ((224 + c / 4_096) ∷ 160 ∷ 128 ∷ [])
first_of_three c ok low high = elim (cases_lt c 4_096) [
  | inl small ↦ inr (three_are 2_048 _ _ _ refl (omega arith) (omega arith) (omega arith) (omega arith) (omega arith))
  | inr big ↦
      let less : ℕ = c / 4_096 * 4_096 in
      inl (three_are less _ _ _ (cut_scalar c less ok (omega arith) (λ far. omega arith)) (omega arith) (omega arith) (omega arith) (omega arith) (omega arith))
]

last_of_four : (c : ℕ) → scalar c ≡ true → 65_536 ≤ c → IsChar ((240 + c / 262_144) ∷ (128 + c / 4_096 % 64) ∷ (128 + c / 64 % 64) ∷ 128 ∷ [])
last_of_four c ok low =
    let less : ℕ = c / 64 * 64 in
    four_are less _ _ _ _ (cut_scalar c less ok (omega arith) (λ far. omega arith)) (omega arith) (omega arith) (omega arith) (omega arith) (omega arith)

second_of_four : (c : ℕ) → scalar c ≡ true → 65_536 ≤ c → IsChar ((240 + c / 262_144) ∷ (128 + c / 4_096 % 64) ∷ 128 ∷ 128 ∷ [])
second_of_four c ok low =
    let less : ℕ = c / 4_096 * 4_096 in
    four_are less _ _ _ _ (cut_scalar c less ok (omega arith) (λ far. omega arith)) (omega arith) (omega arith) (omega arith) (omega arith) (omega arith)

first_of_four : (c : ℕ) → scalar c ≡ true → 65_536 ≤ c → IsChar ((240 + c / 262_144) ∷ 128 ∷ 128 ∷ 128 ∷ []) ⊎ IsChar ((240 + c / 262_144) ∷ 144 ∷ 128 ∷ 128 ∷ [])
first_of_four c ok low = elim (cases_lt c 262_144) [
  | inl small ↦ inr (four_are 65_536 _ _ _ _ refl (omega arith) (omega arith) (omega arith) (omega arith) (omega arith))
  | inr big ↦
      let less : ℕ = c / 262_144 * 262_144 in
      inl (four_are less _ _ _ _ (cut_scalar c less ok (omega arith) (λ far. omega arith)) (omega arith) (omega arith) (omega arith) (omega arith) (omega arith))
]

-- ---- a text

pub record Completes (front more : List ℕ) : Type 0 where
  pub number : ℕ
  pub few : number < 12
  pub short : length (char_end number) ≤ length more
  pub text : IsUtf8 (front ++ char_end number)

-- behind a whole character
past : (char front more : List ℕ) → IsUtf8 char → Completes front more → Completes (char ++ front) more
past char front more is rest = record {
  number = rest.number;
  few = rest.few;
  short = rest.short;
  text = subst IsUtf8 (sym (append_assoc char front (char_end rest.number))) (IsUtf8-append char (front ++ char_end rest.number) is rest.text);
}

-- one byte more
last_byte : (front : List ℕ) (y : ℕ) (tail more : List ℕ) → y ∷ tail ≡ more → IsChar (front ++ 128 ∷ []) → Completes front more
last_byte front y tail more is char = grind (arith, common_steps, length, is_text)

two_bytes : (front : List ℕ) (y z : ℕ) (tail more : List ℕ) → y ∷ z ∷ tail ≡ more → IsChar (front ++ 128 ∷ 128 ∷ []) ⊎ IsChar (front ++ 160 ∷ 128 ∷ []) → Completes front more
two_bytes front y z tail more is (inl char) =
    let count : length more ≡ length tail + 2 = ap (λ (l : List ℕ). length l) (sym is) ∙ omega arith in
    record { number = 2; few = omega arith; short = omega arith; text = is_text (front ++ 128 ∷ 128 ∷ []) char }
two_bytes front y z tail more is (inr char) =
    let count : length more ≡ length tail + 2 = ap (λ (l : List ℕ). length l) (sym is) ∙ omega arith in
    record { number = 10; few = omega arith; short = omega arith; text = is_text (front ++ 160 ∷ 128 ∷ []) char }

three_bytes : (front : List ℕ) (x y z : ℕ) (tail more : List ℕ) → x ∷ y ∷ z ∷ tail ≡ more → IsChar (front ++ 128 ∷ 128 ∷ 128 ∷ []) ⊎ IsChar (front ++ 144 ∷ 128 ∷ 128 ∷ []) → Completes front more
three_bytes front x y z tail more is (inl char) =
    let count : length more ≡ length tail + 3 = ap (λ (l : List ℕ). length l) (sym is) ∙ omega arith in
    record { number = 3; few = omega arith; short = omega arith; text = is_text (front ++ 128 ∷ 128 ∷ 128 ∷ []) char }
three_bytes front x y z tail more is (inr char) =
    let count : length more ≡ length tail + 3 = ap (λ (l : List ℕ). length l) (sym is) ∙ omega arith in
    record { number = 7; few = omega arith; short = omega arith; text = is_text (front ++ 144 ∷ 128 ∷ 128 ∷ []) char }

-- how the text behind a character is completed
abbrev Rest : List ℕ → List ℕ → Type 0
Rest behind more = (front : List ℕ) → behind ≡ front ++ more → Completes front more

of_two : (w x : ℕ) (behind more : List ℕ) → IsChar (w ∷ x ∷ []) → IsChar (w ∷ 128 ∷ []) → Rest behind more
    → (b : ℕ) (front : List ℕ) → w ∷ x ∷ behind ≡ b ∷ front ++ more → Completes (b ∷ front) more
of_two w x behind more whole last rest b [] is =
    let first : w ≡ b = cc in
    let tail : x ∷ behind ≡ more = cc in
    subst (λ (n : ℕ). Completes (n ∷ []) more) first (last_byte (w ∷ []) x behind more tail last)
of_two w x behind more whole last rest b (d ∷ front) is =
    let first : w ≡ b = cc in
    let second : x ≡ d = cc in
    let tail : behind ≡ front ++ more = cc in
    subst (λ (n : ℕ). Completes (n ∷ d ∷ front) more) first
    (subst (λ (n : ℕ). Completes (w ∷ n ∷ front) more) second (past (w ∷ x ∷ []) front more (is_text (w ∷ x ∷ []) whole) (rest front tail)))

of_three : (w x y : ℕ) (behind more : List ℕ) → IsChar (w ∷ x ∷ y ∷ []) → IsChar (w ∷ x ∷ 128 ∷ []) → IsChar (w ∷ 128 ∷ 128 ∷ []) ⊎ IsChar (w ∷ 160 ∷ 128 ∷ []) → Rest behind more
    → (b : ℕ) (front : List ℕ) → w ∷ x ∷ y ∷ behind ≡ b ∷ front ++ more → Completes (b ∷ front) more
of_three w x y behind more whole last both rest b [] is =
    let first : w ≡ b = cc in
    let tail : x ∷ y ∷ behind ≡ more = cc in
    subst (λ (n : ℕ). Completes (n ∷ []) more) first (two_bytes (w ∷ []) x y behind more tail both)
of_three w x y behind more whole last both rest b (d ∷ []) is =
    let first : w ≡ b = cc in
    let second : x ≡ d = cc in
    let tail : y ∷ behind ≡ more = cc in
    subst (λ (n : ℕ). Completes (n ∷ d ∷ []) more) first
    (subst (λ (n : ℕ). Completes (w ∷ n ∷ []) more) second (last_byte (w ∷ x ∷ []) y behind more tail last))
of_three w x y behind more whole last both rest b (d ∷ e ∷ front) is =
    let first : w ≡ b = cc in
    let second : x ≡ d = cc in
    let third : y ≡ e = cc in
    let tail : behind ≡ front ++ more = cc in
    subst (λ (n : ℕ). Completes (n ∷ d ∷ e ∷ front) more) first
    (subst (λ (n : ℕ). Completes (w ∷ n ∷ e ∷ front) more) second
    (subst (λ (n : ℕ). Completes (w ∷ x ∷ n ∷ front) more) third (past (w ∷ x ∷ y ∷ []) front more (is_text (w ∷ x ∷ y ∷ []) whole) (rest front tail))))

of_four : (w x y z : ℕ) (behind more : List ℕ) → IsChar (w ∷ x ∷ y ∷ z ∷ []) → IsChar (w ∷ x ∷ y ∷ 128 ∷ []) → IsChar (w ∷ x ∷ 128 ∷ 128 ∷ [])
    → IsChar (w ∷ 128 ∷ 128 ∷ 128 ∷ []) ⊎ IsChar (w ∷ 144 ∷ 128 ∷ 128 ∷ []) → Rest behind more
    → (b : ℕ) (front : List ℕ) → w ∷ x ∷ y ∷ z ∷ behind ≡ b ∷ front ++ more → Completes (b ∷ front) more
of_four w x y z behind more whole last two both rest b [] is =
    let first : w ≡ b = cc in
    let tail : x ∷ y ∷ z ∷ behind ≡ more = cc in
    subst (λ (n : ℕ). Completes (n ∷ []) more) first (three_bytes (w ∷ []) x y z behind more tail both)
of_four w x y z behind more whole last two both rest b (d ∷ []) is =
    let first : w ≡ b = cc in
    let second : x ≡ d = cc in
    let tail : y ∷ z ∷ behind ≡ more = cc in
    subst (λ (n : ℕ). Completes (n ∷ d ∷ []) more) first
    (subst (λ (n : ℕ). Completes (w ∷ n ∷ []) more) second (two_bytes (w ∷ x ∷ []) y z behind more tail (inl two)))
of_four w x y z behind more whole last two both rest b (d ∷ e ∷ []) is =
    let first : w ≡ b = cc in
    let second : x ≡ d = cc in
    let third : y ≡ e = cc in
    let tail : z ∷ behind ≡ more = cc in
    subst (λ (n : ℕ). Completes (n ∷ d ∷ e ∷ []) more) first
    (subst (λ (n : ℕ). Completes (w ∷ n ∷ e ∷ []) more) second
    (subst (λ (n : ℕ). Completes (w ∷ x ∷ n ∷ []) more) third (last_byte (w ∷ x ∷ y ∷ []) z behind more tail last)))
of_four w x y z behind more whole last two both rest b (d ∷ e ∷ f ∷ front) is =
    let first : w ≡ b = cc in
    let second : x ≡ d = cc in
    let third : y ≡ e = cc in
    let fourth : z ≡ f = cc in
    let tail : behind ≡ front ++ more = cc in
    subst (λ (n : ℕ). Completes (n ∷ d ∷ e ∷ f ∷ front) more) first
    (subst (λ (n : ℕ). Completes (w ∷ n ∷ e ∷ f ∷ front) more) second
    (subst (λ (n : ℕ). Completes (w ∷ x ∷ n ∷ f ∷ front) more) third
    (subst (λ (n : ℕ). Completes (w ∷ x ∷ y ∷ n ∷ front) more) fourth
    (past (w ∷ x ∷ y ∷ z ∷ []) front more (is_text (w ∷ x ∷ y ∷ z ∷ []) whole) (rest front tail)))))

of_one : (c : ℕ) (behind more : List ℕ) → scalar c ≡ true → c < 128 → Rest behind more
    → (b : ℕ) (front : List ℕ) → c ∷ behind ≡ b ∷ front ++ more → Completes (b ∷ front) more
of_one c behind more ok small rest b front is =
    let first : c ≡ b = cc in
    let tail : behind ≡ front ++ more = cc in
    subst (λ (n : ℕ). Completes (n ∷ front) more) first (past (c ∷ []) front more (is_text (c ∷ []) (c, ok, encode_ascii c small)) (rest front tail))

of_char : (c : ℕ) (behind more : List ℕ) → scalar c ≡ true → Rest behind more
    → (b : ℕ) (front : List ℕ) → encode c ++ behind ≡ b ∷ front ++ more → Completes (b ∷ front) more
of_char c behind more ok rest b front is = elim (cases_lt c 128) [
  | inl one ↦ of_one c behind more ok one rest b front (ap (λ (l : List ℕ). l ++ behind) (sym (encode_ascii c one)) ∙ is)
  | inr over ↦ elim (cases_lt c 2_048) [
    | inl small ↦
        of_two (192 + c / 64) (128 + c % 64) behind more (c, ok, two c over small) (last_of_two c ok over small) rest b front
        (ap (λ (l : List ℕ). l ++ behind) (sym (two c over small)) ∙ is)
    | inr big ↦ elim (cases_lt c 65_536) [
      | inl small ↦
          of_three (224 + c / 4_096) (128 + c / 64 % 64) (128 + c % 64) behind more (c, ok, three c big small) (last_of_three c ok big small) (first_of_three c ok big small) rest b front
          (ap (λ (l : List ℕ). l ++ behind) (sym (three c big small)) ∙ is)
      | inr large ↦
          of_four (240 + c / 262_144) (128 + c / 4_096 % 64) (128 + c / 64 % 64) (128 + c % 64) behind more (c, ok, four c large) (last_of_four c ok large) (second_of_four c ok large)
          (first_of_four c ok large) rest b front (ap (λ (l : List ℕ). l ++ behind) (sym (four c large)) ∙ is)
    ]
  ]
]

completes-from : (cs front more : List ℕ) → scalars cs ≡ true → encodes cs ≡ front ++ more → Completes front more
completes-from cs [] more ok is = record { number = 0; few = omega arith; short = omega arith; text = IsUtf8-nil }
completes-from [] (b ∷ front) more ok is = let never : [] ≡ b ∷ front ++ more = is in cc
completes-from (c ∷ cs) (b ∷ front) more ok is =
    let both = and_parts (scalar c) (scalars cs) ok in
    of_char c (encodes cs) more both.0 (λ next tail. completes-from cs next more both.1 tail) b front is

pub completes : (front more : List ℕ) → IsUtf8 (front ++ more) → Completes front more
completes front more (cs, both) = completes-from cs front more both.0 both.1
