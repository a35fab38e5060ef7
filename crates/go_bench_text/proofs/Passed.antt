-- What was passed on the way through the characters of a text.
use Rattle.std.proofs.Common.{◌≡◌, ℕ, zero, suc, ◌+◌, ◌<◌, ◌≤◌, get_or, Bool, true, false, ◌&&◌, not, List, [], ◌∷◌, ◌++◌, length, take, drop, ◌-◌, refl, sym, ◌∙◌, ap, subst, append_assoc, arith, length-append}
use Rattle.std.{specs.Char.{is_whitespace, encode_utf8, IsScalar}, specs.List.list_all, specs.Str.{chars, IsUtf8, IsCharBoundary}, proofs.lemmas.Bool.and_from}
use Rattle.std.proofs.lemmas.{Bool.Decides.nat_tests, Grind.common_steps, List.{append-nil, drop_more, length-drop}, List.Folds.list_all-append}
use Rattle.std.proofs.lemmas.Str.{IsUtf8-nil, IsUtf8-append, IsUtf8-drop, IsCharBoundary-after_ascii, encode_ascii, IsUtf8-encode, chars-append, chars_past_char, chars-nil, IsCharBoundary-at_seam}
use Rattle.go_bench_text.specs.{Characters.is_black, Parts.{IsBlackByte, IsWhiteByte, is_stopped}}

-- the rest of the text behind characters other than white space
pub record Passed (text rest : List ℕ) : Type 0 where
  pub front : List ℕ
  pub joined : text ≡ front ++ rest
  pub is : IsUtf8 front
  pub black : list_all is_black (chars front) ≡ true
  pub more : IsUtf8 rest

pub passed_none : (text : List ℕ) → IsUtf8 text → Passed text text
passed_none text is = record { front = []; joined = refl; is = IsUtf8-nil; black = ap (list_all is_black) chars-nil; more = is }

pub passed_more : (text rest more : List ℕ) (c : ℕ) → IsScalar c → rest ≡ encode_utf8 c ++ more → IsUtf8 more → is_whitespace c ≡ false → Passed text rest → Passed text more
passed_more text rest more c scalar e is white before =
    let of_c : chars (encode_utf8 c) ≡ c ∷ [] = chars_past_char (encode_utf8 c) [] c (IsUtf8-encode c scalar) (sym (append-nil (encode_utf8 c))) ∙ ap (λ (cs : List ℕ). c ∷ cs) chars-nil in
    let all : chars (before.front ++ encode_utf8 c) ≡ chars before.front ++ c ∷ [] = chars-append before.front (encode_utf8 c) before.is ∙ ap (λ (cs : List ℕ). chars before.front ++ cs) of_c in
    let last : list_all is_black (c ∷ []) ≡ true = ap (λ (b : Bool). not b && true) white in
    record {
      front = before.front ++ encode_utf8 c;
      joined = before.joined ∙ (ap (λ (xs : List ℕ). before.front ++ xs) e ∙ sym (append_assoc before.front (encode_utf8 c) more));
      is = IsUtf8-append before.front (encode_utf8 c) before.is (IsUtf8-encode c scalar);
      black = ap (list_all is_black) all ∙ (list_all-append is_black (chars before.front) (c ∷ []) ∙ and_from (list_all is_black (chars before.front)) (list_all is_black (c ∷ [])) before.black last);
      more = is;
    }

-- a byte of ASCII is a character
passed_byte : (text : List ℕ) (n : ℕ) → n < length text → IsBlackByte (get_or text n 0) → Passed text (drop n text) → Passed text (drop (n + 1) text)
passed_byte text n short black before =
    let b = get_or text n 0 in
    let e : drop n text ≡ b ∷ drop (n + 1) text = drop_more text n 0 short in
    let ascii : encode_utf8 b ≡ b ∷ [] = encode_ascii b black.0 in
    let cut : drop n text ≡ encode_utf8 b ++ drop (n + 1) text = e ∙ ap (λ (xs : List ℕ). xs ++ drop (n + 1) text) (sym ascii) in
    let is : IsUtf8 text = subst IsUtf8 (sym before.joined) (IsUtf8-append before.front (drop n text) before.is before.more) in
    let more : IsUtf8 (drop (n + 1) text) = IsUtf8-drop text (n + 1) is (IsCharBoundary-after_ascii text n is short black.0) in
    passed_more text (drop n text) (drop (n + 1) text) b (scalar b black.0) cut more black.1 before where
      scalar : (c : ℕ) → c < 128 → IsScalar c
      scalar c h = grind (arith, nat_tests)

pub passed_ascii : (text : List ℕ) (n : ℕ) → IsUtf8 text → n ≤ length text → ((k : ℕ) → k < n → IsBlackByte (get_or text k 0)) → Passed text (drop n text)
passed_ascii text zero is within black = passed_none text is
passed_ascii text (suc n) is within black =
    let next : n + 1 ≡ suc n = omega arith in
    subst (λ (m : ℕ). Passed text (drop m text)) next (passed_byte text n (omega arith) (black n (omega arith)) (passed_ascii text n is (omega arith) (λ k l. black k (omega arith))))

-- where the rest begins, the text may be cut
pub passed_seam : (text rest : List ℕ) → Passed text rest → IsCharBoundary text (length text - length rest)
passed_seam text rest p =
    let e : length text - length rest ≡ length p.front = omega (arith, ap length p.joined, length-append p.front rest) in
    subst (IsCharBoundary text) (sym e) (IsCharBoundary-at_seam text p.front rest p.joined p.more)

-- the two parts of that cut
pub record Halves (text front back rest : List ℕ) : Type 0 where
  pub joined : text ≡ front ++ back
  pub black : list_all is_black (chars front) ≡ true
  pub is : IsUtf8 front
  pub same : back ≡ rest
  pub more : IsUtf8 back

pub passed_halves : (text rest front back : List ℕ) → Passed text rest → front ≡ take (length text - length rest) text → back ≡ drop (length text - length rest) text → Halves text front back rest
passed_halves text rest front back p e f = grind (arith, common_steps)

-- ASCII characters other than white space in front, cut off where they end
pub ascii_halves : (text front back : List ℕ) (n : ℕ) → IsUtf8 text → n ≤ length text → ((k : ℕ) → k < n → IsBlackByte (get_or text k 0)) → front ≡ take n text → back ≡ drop n text
    → Halves text front back (drop n text)
ascii_halves text front back n is within black e f =
    let passed = passed_ascii text n is within black in
    let rest : length text - length (drop n text) ≡ n = omega (arith, length-drop n text) in
    passed_halves text (drop n text) front back passed (e ∙ ap (λ (m : ℕ). take m text) (sym rest)) (f ∙ ap (λ (m : ℕ). drop m text) (sym rest))

-- which is at the end, or at white space
pub ascii_stopped : (text : List ℕ) (n : ℕ) → IsUtf8 (drop n text) → (n < length text → IsWhiteByte (get_or text n 0)) → is_stopped (chars (drop n text)) ≡ true
ascii_stopped text n is white = by_end (drop n text) refl where
  by_end : (rest : List ℕ) → drop n text ≡ rest → is_stopped (chars rest) ≡ true
  by_end [] e = ap is_stopped chars-nil
  by_end (b ∷ rest) e =
      let some : n < length text = omega (arith, length-drop n text, ap length e) in
      let same : drop n text ≡ get_or text n 0 ∷ drop (n + 1) text = drop_more text n 0 some in
      let here : b ≡ get_or text n 0 = ap (λ (xs : List ℕ). get_or xs 0 0) (sym e ∙ same) in
      let at : IsWhiteByte b = subst IsWhiteByte (sym here) (white some) in
      let of_b : chars (b ∷ rest) ≡ b ∷ chars rest = chars_past_char (b ∷ rest) rest b (subst IsUtf8 e is) (ap (λ (xs : List ℕ). xs ++ rest) (sym (encode_ascii b at.0))) in
      ap is_stopped of_b ∙ at.1
