-- Lines that are skipped, and the words of a line that goes on.
use Rattle.std.proofs.lemmas.Grind.{common_steps}
use Rattle.std.proofs.Common.{◌≡◌, ◌≢◌, ℕ, ◌+◌, ◌<◌, ◌≤◌, ◌⊎◌, inl, inr, append-nil, append_assoc, List, [], ◌∷◌, ◌++◌, length, get_or, take, drop, filter, refl, sym, ap, subst, ◌∙◌, arith, length-append}
use Rattle.std.{specs.List.slice_split, proofs.lemmas.List.{take-append-drop, get_or-take}, proofs.lemmas.List.Elements.filter-append}
use Rattle.line_text.{specs.Names.Spells, specs.Lines.{words_of, is_word}, proofs.Parts.{first_part, last_part, goes_on}}
use Rattle.line_text.proofs.Blank.{is_space, blank-append, blank_parts}
use Rattle.commit_lines.specs.{Lines.{IsSkipped, IsNameLine, IsGood, EndsWithSpace, MayBecomeName, MayGo}, HasRead.AreSkipped}

-- ---- words

-- a line with no word doesn't begin with a #
not_hash : (line : List ℕ) → words_of line ≡ [] → get_or line 0 0 ≡ 35 → ⊥
not_hash line none is = grind (arith, common_steps)

-- the first byte of a line that goes on
pub same_first : (line part : List ℕ) → 0 < length line → get_or (line ++ part) 0 0 ≡ get_or line 0 0
same_first line part some = grind (arith, common_steps)

-- the words of a line are no more than those of the line that goes on
last_counts : (rest first : List ℕ) (behind : List (List ℕ)) → length (filter is_word (rest ∷ [])) ≤ length (filter is_word ((rest ++ first) ∷ behind))
last_counts rest first behind = grind (arith, common_steps)

words-more : (line more : List ℕ) → length (words_of line) ≤ length (words_of (line ++ more))
words-more line more =
    let part = last_part is_space line in
    let next = first_part is_space more in
    let front : words_of line ≡ filter is_word part.before ++ filter is_word (part.last ∷ []) = ap (filter is_word) part.is ∙ filter-append is_word part.before (part.last ∷ []) in
    let back : words_of (line ++ more) ≡ filter is_word part.before ++ filter is_word ((part.last ++ next.first) ∷ next.behind) =
    ap (filter is_word) (goes_on is_space line more part.before part.last next.first next.behind part.is next.is) ∙ filter-append is_word part.before ((part.last ++ next.first) ∷ next.behind) in
    let one : length (words_of line) ≡ length (filter is_word part.before) + length (filter is_word (part.last ∷ [])) = ap (λ (ws : List (List ℕ)). length ws) front ∙ length-append (filter is_word part.before) (filter is_word (part.last ∷ [])) in
    let two : length (words_of (line ++ more)) ≡ length (filter is_word part.before) + length (filter is_word ((part.last ++ next.first) ∷ next.behind)) =
    ap (λ (ws : List (List ℕ)). length ws) back ∙ length-append (filter is_word part.before) (filter is_word ((part.last ++ next.first) ∷ next.behind)) in
    omega (arith, one, two, last_counts part.last next.first next.behind)

-- ---- a line that has begun

no_items : (ws : List (List ℕ)) → length ws ≡ 0 → ws ≡ []
no_items ws none = grind (arith, common_steps)

skipped_front : (line more : List ℕ) → IsSkipped (line ++ more) → IsSkipped line
skipped_front line more skipped = grind (arith, common_steps, blank_parts)

-- what may become a name with more bytes may become one
becomes_front : (line more : List ℕ) → MayBecomeName (line ++ more) → MayBecomeName line
becomes_front line more x2 = grind (arith, common_steps, skipped_front, append_assoc)

-- the words behind a space are those of the bytes behind it
words_behind : (front more : List ℕ) → words_of ((front ++ 32 ∷ []) ++ more) ≡ words_of (front ++ 32 ∷ []) ++ words_of more
words_behind front more =
    let part = last_part is_space front in
    let next = first_part is_space more in
    let before : List (List ℕ) = part.before ++ (part.last ++ []) ∷ [] in
    let ended : slice_split is_space (front ++ 32 ∷ []) ≡ before ++ [] ∷ [] =
    goes_on is_space front (32 ∷ []) part.before part.last [] ([] ∷ []) part.is refl ∙ sym (append_assoc part.before ((part.last ++ []) ∷ []) ([] ∷ [])) in
    let whole : slice_split is_space ((front ++ 32 ∷ []) ++ more) ≡ before ++ next.first ∷ next.behind =
    goes_on is_space (front ++ 32 ∷ []) more before [] next.first next.behind ended next.is in
    let one : words_of (front ++ 32 ∷ []) ≡ filter is_word before ++ [] = ap (filter is_word) ended ∙ filter-append is_word before ([] ∷ []) in
    let two : words_of ((front ++ 32 ∷ []) ++ more) ≡ filter is_word before ++ words_of more = grind (arith, common_steps) in
    two ∙ ap (λ (ws : List (List ℕ)). ws ++ words_of more) (sym (append-nil (filter is_word before)) ∙ sym one)

-- a byte with no word is a space
one_space : (b : ℕ) → words_of (b ∷ []) ≡ [] → b ≡ 32
one_space b none = grind (arith, common_steps)

-- bytes with no word end with a space
blank_ends : (bytes : List ℕ) → words_of bytes ≡ [] → (bytes ≡ []) ⊎ EndsWithSpace bytes
blank_ends [] none = inl refl
blank_ends (b ∷ bytes) none = let both = blank_parts (b ∷ []) bytes none in at both.0 (blank_ends bytes both.1)
  where
    at : words_of (b ∷ []) ≡ [] → (bytes ≡ []) ⊎ EndsWithSpace bytes → (b ∷ bytes ≡ []) ⊎ EndsWithSpace (b ∷ bytes)
    at alone (inl last) = inr ([], ap (λ (bs : List ℕ). b ∷ bs) last ∙ ap (λ (n : ℕ). n ∷ []) (one_space b alone))
    at alone (inr (front, is)) = inr (b ∷ front, ap (λ (bs : List ℕ). b ∷ bs) is)

-- a good line, behind whose one word a space came, was good before more spaces came
good_front : (names : List (List ℕ)) (line more : List ℕ) → 0 < length line → words_of (line ++ more) ≡ words_of line → IsGood names (line ++ more) → IsGood names line
good_front names line more some same x5 = grind (arith, common_steps)

-- with no more words behind a space there are spaces alone
ended_front : (names : List (List ℕ)) (line more : List ℕ) → EndsWithSpace line → words_of more ≡ [] → (EndsWithSpace (line ++ more) → IsGood names (line ++ more)) → IsGood names line
ended_front names line more (front, is) none ended = good_front names line more some same (at (blank_ends more none))
  where
    some : 0 < length line
    some = let count : length line ≡ length front + 1 = ap (λ (bs : List ℕ). length bs) is ∙ length-append front (32 ∷ []) in omega arith

    same : words_of (line ++ more) ≡ words_of line
    same =
        ap (λ (bs : List ℕ). words_of (bs ++ more)) is ∙ words_behind front more ∙ ap (λ (ws : List (List ℕ)). words_of (front ++ 32 ∷ []) ++ ws) none
        ∙ append-nil (words_of (front ++ 32 ∷ [])) ∙ ap words_of (sym is)

    at : (more ≡ []) ⊎ EndsWithSpace more → IsGood names (line ++ more)
    at (inl last) = ended (front, ap (λ (bs : List ℕ). line ++ bs) last ∙ append-nil line ∙ is)
    at (inr (before, ends)) = ended (line ++ before, ap (λ (bs : List ℕ). line ++ bs) ends ∙ sym (append_assoc line before (32 ∷ [])))

-- what may go on with more bytes may go on
pub may_front : (names : List (List ℕ)) (line more : List ℕ) → MayGo names (line ++ more) → MayGo names line
may_front names line more may = record { ended = ended; becomes = becomes_front line more may.becomes }
  where
    at : EndsWithSpace line → MayBecomeName (line ++ more) → (words : List (List ℕ)) → words_of line ≡ words → IsGood names line
    at ends (inl skipped) words is = inl (skipped_front line more skipped)
    at ends (inr told) [] is = inl (inr is)
    at (front, ends) (inr (end, name, says)) (word ∷ words) is =
        let whole : words_of (line ++ more) ≡ words_of line ++ words_of more = grind (arith, common_steps, words_of, words_behind) in
        let count : length (words_of (line ++ more)) ≡ length (words_of line) + length (words_of more) = grind (arith, common_steps) in
        let some : length (words_of line) ≡ length (word ∷ words) = ap (λ (ws : List (List ℕ)). length ws) is in
        let one : length (words_of ((line ++ more) ++ end)) ≡ 1 = ap (λ (ws : List (List ℕ)). length ws) says.one in
        let none : length (words_of more) ≡ 0 = omega (arith, one, words-more (line ++ more) end) in
        ended_front names line more (front, ends) (no_items (words_of more) none) may.ended

    ended : EndsWithSpace line → IsGood names line
    ended ends = at ends may.becomes (words_of line) refl

-- a good line may go on
pub good_may : (names : List (List ℕ)) (line : List ℕ) → IsGood names line → MayGo names line
good_may names line good = record { ended = λ ends. good; becomes = at good }
  where
    at : IsGood names line → MayBecomeName line
    at (inl skipped) = inl skipped
    at (inr (name, says, fresh)) = inr ([], name, subst (λ (bs : List ℕ). IsNameLine bs name) (sym (append-nil line)) says)

-- a line that is skipped says no name
pub skipped_not_name : (line name : List ℕ) → IsSkipped line → IsNameLine line name → ⊥
skipped_not_name line name x2 says = grind (arith, common_steps)

-- ---- a long line

pub both_skipped : (one other : List ℕ) → AreSkipped one other → IsSkipped one × IsSkipped other
both_skipped one other x2 = grind (arith, common_steps)

pub turned : (one other : List ℕ) → AreSkipped one other → AreSkipped other one
turned one other x2 = grind (arith, common_steps)

-- where one is skipped with more bytes, both are
pub skipped_more : (one other part : List ℕ) → AreSkipped one other → 0 < length one → 0 < length other → IsSkipped (one ++ part) → AreSkipped (one ++ part) (other ++ part)
skipped_more one other part x3 some more skipped = grind (arith, common_steps, same_first, not_hash, words_of, blank_parts, blank-append)

pub same_skipped : (line : List ℕ) → IsSkipped line → AreSkipped line line
same_skipped line x1 = grind (arith, common_steps)

-- the first bytes of a line that is skipped
pub front_skipped : (one other : List ℕ) (n : ℕ) → 0 < n → AreSkipped one other → AreSkipped (take n one) other
front_skipped one other n some (inl (is, too)) = inl (get_or-take n one 0 0 some ∙ is, too)
front_skipped one other n some (inr (none, other_none)) =
    inr ((blank_parts (take n one) (drop n one) (ap words_of (take-append-drop n one) ∙ none)).0, other_none)

-- ---- kinds of lines

pub one_word : (line word : List ℕ) (rest : List (List ℕ)) → get_or line 0 0 ≢ 35 → words_of line ≡ word ∷ rest → rest ≡ [] → ((name : List ℕ) → ¬ Spells word name)
    → (¬ IsSkipped line) × ((name : List ℕ) → ¬ IsNameLine line name)
one_word line word rest other words none never = grind (arith, common_steps)

-- a line that says a name is no other line's
pub one_name : (line name other : List ℕ) → IsNameLine line name → IsNameLine line other → name ≡ other
one_name line name other one two = grind (arith, common_steps)
