-- The first line of a text, by the place of its first line feed.
use Rattle.std.proofs.Common.{◌≡◌, ℕ, ◌+◌, ◌-◌, ◌<◌, ◌≤◌, List, ◌∷◌, [], ◌++◌, All, length, take, drop, get_or, slice_index, eqb, false, eqb-true, refl, sym, ap, ◌∙◌, arith, eq-eqb, Some, None, Option, Bor, IfSome, IfNone, length-drop, subst}
use Rattle.std.{specs.List.slice_range, specs.Str.{IsUtf8, IsCharBoundary}, proofs.lemmas.Bool.ne_eqb, proofs.lemmas.Grind.common_steps}
use Rattle.std.proofs.lemmas.List.{drop_more, get_or_default, get_or-take, length-take, Splits.{slice_split_at, slice_split_none}}
use Rattle.std.proofs.lemmas.Str.{IsCharBoundary-after_ascii}
use Rattle.line_text.specs.Lines.{lines_of}
use Rattle.memchr.specs.Find.{IsFirstByte, Nowhere, Passes, is_byte}

is_other : (bytes : List ℕ) (n k d : ℕ) → Nowhere (Passes (is_byte 10) bytes) 0 n → k < n → k < length bytes → eqb (get_or bytes k d) 10 ≡ false
is_other bytes n k d nowhere low within =
    ne_eqb (get_or bytes k d) 10 (λ is. nowhere k (omega arith) low (eq-eqb (slice_index bytes k) 10 (get_or_default bytes k 0 d within ∙ is)))

no_feed_in : (bytes : List ℕ) (n : ℕ) → Nowhere (Passes (is_byte 10) bytes) 0 n → All (λ b. eqb b 10 ≡ false) (take n bytes)
no_feed_in bytes n nowhere k d less = grind (arith, common_steps, length-take, eqb, get_or-take, is_other)

is_feed : (text : List ℕ) (end : ℕ) → IsFirstByte (is_byte 10) text (Some end) → get_or text end 0 ≡ 10
is_feed text end first = eqb-true (get_or text end 0) 10 first.1

-- a character begins behind the line feed, or the text ends there
pub behind_feed : (text bytes : List ℕ) (end : ℕ) → IsUtf8 text → bytes ≡ text → IsFirstByte (is_byte 10) bytes (Some end) → IsCharBoundary text (end + 1)
behind_feed text bytes end is same found =
    let first = subst (λ (bs : List ℕ). IsFirstByte (is_byte 10) bs (Some end)) same found in
    let feed = is_feed text end first in
    IsCharBoundary-after_ascii text end is first.0.high (omega (arith, feed))

-- the line feed ends the first line
pub first_line_ends : (text bytes line behind : List ℕ) (end : ℕ) → bytes ≡ text → IsFirstByte (is_byte 10) bytes (Some end) → line ≡ slice_range text 0 end → behind ≡ drop (end + 1) text
    → lines_of text ≡ line ∷ lines_of behind
first_line_ends text bytes line behind end same found front back =
    let first = subst (λ (bs : List ℕ). IsFirstByte (is_byte 10) bs (Some end)) same found in
    let split : drop end text ≡ get_or text end 0 ∷ drop (end + 1) text = drop_more text end 0 first.0.high in
    let feed = is_feed text end first in
    let whole : take end text ++ 10 ∷ drop (end + 1) text ≡ text = grind (arith, common_steps) in
    let ends : lines_of text ≡ take end text ∷ lines_of (drop (end + 1) text) =
    ap lines_of (sym whole) ∙ slice_split_at (λ b. eqb b 10) (take end text) 10 (drop (end + 1) text) (no_feed_in text end first.0.before) refl in
    let all : end - 0 ≡ end = omega arith in
    let is_front : line ≡ take end text = front ∙ ap (λ (n : ℕ). take n text) all in
    ends ∙ ap (λ (bs : List ℕ). bs ∷ lines_of (drop (end + 1) text)) (sym is_front) ∙ ap (λ (bs : List ℕ). line ∷ lines_of bs) (sym back)

-- a text with no line feed is one line
pub one_line : (text bytes : List ℕ) → bytes ≡ text → IsFirstByte (is_byte 10) bytes None → lines_of text ≡ text ∷ []
one_line text bytes same found = grind (arith, common_steps, slice_split_none, eqb, is_other, length)

-- the line is the next of the lines
pub record IsNextLine (lines : List (List ℕ)) (n : ℕ) (line : List ℕ) : Type 0 where
  pub less : n < length lines
  pub is : line ≡ get_or lines n []

next_line : (lines : List (List ℕ)) (n : ℕ) (line : List ℕ) (more : List (List ℕ)) → drop n lines ≡ line ∷ more → IsNextLine lines n line × (drop (n + 1) lines ≡ more)
next_line lines n line more left =
    let less : n < length lines = omega (arith, ap length left, length-drop n lines) in
    let split : line ∷ more ≡ get_or lines n [] ∷ drop (n + 1) lines = sym left ∙ drop_more lines n [] less in
    (record { less = less; is = cc }, cc)

pub first_is_next : (lines : List (List ℕ)) (n : ℕ) (text line : List ℕ) (behind : Option (Bor (List ℕ))) → drop n lines ≡ lines_of text
    → IfSome behind (λ b. lines_of text ≡ line ∷ lines_of b.now) → IfNone behind (lines_of text ≡ line ∷ []) → IsNextLine lines n line
first_is_next lines n text line behind left more last = grind (arith, common_steps)

-- the lines behind it
pub more_left : (lines : List (List ℕ)) (n : ℕ) (text line : List ℕ) (behind : Option (Bor (List ℕ))) (more : Bor (List ℕ)) → drop n lines ≡ lines_of text → behind ≡ Some more
    → IfSome behind (λ b. lines_of text ≡ line ∷ lines_of b.now) → drop (n + 1) lines ≡ lines_of more.now
more_left lines n text line behind more left is goes = grind (arith, common_steps, next_line)

-- none is behind the last
pub none_left : (lines : List (List ℕ)) (n : ℕ) (text line : List ℕ) → drop n lines ≡ lines_of text → lines_of text ≡ line ∷ [] → length lines ≤ n + 1
none_left lines n text line left last = omega (arith, ap length (left ∙ last), length-drop n lines)
