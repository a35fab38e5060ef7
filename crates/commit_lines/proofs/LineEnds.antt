-- A line that has begun and may become a name becomes one by an end that is tried.
use Rattle.std.proofs.Common.{◌≡◌, ℕ, zero, suc, ◌+◌, ◌*◌, ◌<◌, ◌≤◌, ◌⊎◌, inl, inr, List, [], ◌∷◌, ◌++◌, length, take, filter, true, false, eq-eqb, ne_eqb, refl, sym, ap, subst, ◌∙◌, arith, length-append}
use Rattle.std.{specs.List.{slice_split, onto_first}, proofs.lemmas.Bool.cases_eq}
use Rattle.std.{proofs.lemmas.List.Elements.filter-append, specs.Str.IsUtf8, proofs.lemmas.Grind.common_steps}
use Rattle.percent_encoding.{specs.Percent.percent_decode, proofs.PercentLemmas.length-percent_decode}
use Rattle.line_text.{specs.Lines.{words_of, is_word}, specs.Names.HasWholeEscapes, proofs.Parts.{FirstPart, first_part, goes_on}}
use Rattle.line_text.proofs.Blank.{is_space, word_first}
use Rattle.commit_lines.specs.{Lines.{IsSkipped, IsNameLine, EndsWithSpace, MayBecomeName}, Ends.{digits_of, end_of, end_at}}
use Rattle.commit_lines.{specs.HasRead.{SaysName, IsTried}, proofs.Words.same_first, proofs.WordEnds.{TriedEnd, WordEnds, bytes_of, word_ends}}

-- ---- the last word of a line

record LastWord (line : List ℕ) : Type 0 where
  before : List (List ℕ)
  first : ℕ
  rest : List ℕ
  is : slice_split is_space line ≡ before ++ (first ∷ rest) ∷ []

one_more : (b : ℕ) (line : List ℕ) → LastWord line → LastWord (b ∷ line)
one_more b line last = elim (cases_eq b 32) [
  | inl is ↦
      let told : is_space b ≡ true = eq-eqb b 32 is in
      let head : slice_split is_space (b ∷ line) ≡ [] ∷ slice_split is_space line = rw told refl in
      record { before = [] ∷ last.before; first = last.first; rest = last.rest; is = head ∙ ap (λ (ps : List (List ℕ)). [] ∷ ps) last.is }
  | inr other ↦
      let told : is_space b ≡ false = ne_eqb b 32 other in
      let head : slice_split is_space (b ∷ line) ≡ onto_first b (slice_split is_space line) = rw told refl in
      at last.before (head ∙ ap (onto_first b) last.is)
]
  where
    at : (before : List (List ℕ)) → slice_split is_space (b ∷ line) ≡ onto_first b (before ++ (last.first ∷ last.rest) ∷ []) → LastWord (b ∷ line)
    at [] is = record { before = []; first = b; rest = last.first ∷ last.rest; is = is }
    at (part ∷ before) is = record { before = (b ∷ part) ∷ before; first = last.first; rest = last.rest; is = is }

last_word : (line : List ℕ) → 0 < length line → EndsWithSpace line ⊎ LastWord line
last_word [] some = absurd (omega arith)
last_word (b ∷ []) some = elim (cases_eq b 32) [
  | inl is ↦ inl ([], ap (λ (n : ℕ). n ∷ []) is)
  | inr other ↦
      let told : is_space b ≡ false = ne_eqb b 32 other in
      let head : slice_split is_space (b ∷ []) ≡ (b ∷ []) ∷ [] = rw told refl in
      inr (record { before = []; first = b; rest = []; is = head })
]
last_word (b ∷ c ∷ line) some = at (last_word (c ∷ line) (omega arith))
  where
    at : EndsWithSpace (c ∷ line) ⊎ LastWord (c ∷ line) → EndsWithSpace (b ∷ c ∷ line) ⊎ LastWord (b ∷ c ∷ line)
    at (inl (front, is)) = inl (b ∷ front, ap (λ (bs : List ℕ). b ∷ bs) is)
    at (inr last) = inr (one_more b (c ∷ line) last)

-- ---- bytes above the space

abbrev Big : List ℕ → Type 0
Big [] = Unit {0}
Big (b ∷ bytes) = (33 ≤ b) × Big bytes

big-append : (one other : List ℕ) → Big one → Big other → Big (one ++ other)
big-append [] other all more = more
big-append (b ∷ one) other all more = (all.0, big-append one other all.1 more)

big_take : (n : ℕ) (bytes : List ℕ) → Big bytes → Big (take n bytes)
big_take zero bytes all = tt
big_take (suc n) [] all = tt
big_take (suc n) (b ∷ bytes) all = (all.0, big_take n bytes all.1)

digits_big : (count value : ℕ) → count < 3 → Big (digits_of count value)
digits_big count value few = grind (arith, common_steps)

end_big : (count value number : ℕ) → count < 3 → Big (end_of count value number)
end_big count value number few = grind (arith, common_steps, big-append, digits_big, big_take)

no_space : (bytes : List ℕ) → Big bytes → slice_split is_space bytes ≡ bytes ∷ []
no_space [] all = refl
no_space (b ∷ bytes) all = grind (arith, common_steps, no_space bytes all.1)

-- ---- the word that goes on

first_short : (bytes part : List ℕ) (behind : List (List ℕ)) → slice_split is_space bytes ≡ part ∷ behind → length part ≤ length bytes
first_short [] part behind is = let same : [] ≡ part = cc in omega (arith, ap (λ (bs : List ℕ). length bs) same)
first_short (b ∷ bytes) part behind is = elim (cases_eq b 32) [
  | inl space ↦
      let told : is_space b ≡ true = eq-eqb b 32 space in
      let head : slice_split is_space (b ∷ bytes) ≡ [] ∷ slice_split is_space bytes = rw told refl in
      let whole : [] ∷ slice_split is_space bytes ≡ part ∷ behind = sym head ∙ is in
      let same : [] ≡ part = cc in
      omega (arith, ap (λ (bs : List ℕ). length bs) same)
  | inr other ↦
      let told : is_space b ≡ false = ne_eqb b 32 other in
      let head : slice_split is_space (b ∷ bytes) ≡ onto_first b (slice_split is_space bytes) = rw told refl in
      let next = first_part is_space bytes in
      let whole : (b ∷ next.first) ∷ next.behind ≡ part ∷ behind = sym (head ∙ ap (onto_first b) next.is) ∙ is in
      let same : b ∷ next.first ≡ part = cc in
      let count : suc (length next.first) ≡ length part = ap (λ (bs : List ℕ). length bs) same in
      omega (arith, first_short bytes next.first next.behind next.is)
]

one_item : (front : List (List ℕ)) (item other : List ℕ) (behind : List (List ℕ)) → front ++ item ∷ behind ≡ other ∷ [] → (front ≡ []) × (item ≡ other)
one_item [] item other behind is = (refl, cc)
one_item (x ∷ front) item other behind is = absurd (never front (let tails : front ++ item ∷ behind ≡ [] = cc in tails))
  where
    never : (front : List (List ℕ)) → front ++ item ∷ behind ≡ [] → ⊥
    never [] is = cc
    never (y ∷ front) is = cc

-- the words of a line whose last word goes on
words_on : (line more : List ℕ) (last : LastWord line) (first : List ℕ) (behind : List (List ℕ)) → slice_split is_space more ≡ first ∷ behind
    → words_of (line ++ more) ≡ filter is_word last.before ++ (last.first ∷ (last.rest ++ first)) ∷ filter is_word behind
words_on line more last first behind is =
    ap (filter is_word) (goes_on is_space line more last.before (last.first ∷ last.rest) first behind last.is is)
    ∙ filter-append is_word last.before ((last.first ∷ (last.rest ++ first)) ∷ behind)
    ∙ ap (λ (ws : List (List ℕ)). filter is_word last.before ++ ws) (word_first last.first (last.rest ++ first) behind)

-- by number
numbered : (e : TriedEnd) → end_at (e.count * 3_072 + e.value * 12 + e.number) ≡ bytes_of e
numbered e = grind (arith, common_steps)

word_tried : (line more name : List ℕ) (last : LastWord line) → 0 < length line → IsNameLine (line ++ more) name → IsTried line
word_tried line more name last some says = (
  ends.end.count * 3_072 + ends.end.value * 12 + ends.end.number,
  omega (arith, ends.end.few_digits, ends.end.few_values, ends.end.few_numbers),
  subst (λ (bs : List ℕ). SaysName (line ++ bs)) (sym (numbered ends.end)) (percent_decode (word ++ end), spelt),
)
  where
    next : FirstPart is_space more
    next = first_part is_space more

    word : List ℕ
    word = last.first ∷ last.rest

    only : (filter is_word last.before ≡ []) × (word ++ next.first ≡ says.word)
    only = one_item (filter is_word last.before) (word ++ next.first) says.word (filter is_word next.behind) (sym (words_on line more last next.first next.behind next.is) ∙ says.one)

    ends : WordEnds [] word next.first
    ends =
        word_ends word next.first [] (subst HasWholeEscapes (sym only.1) says.spells.escapes)
        (subst IsUtf8 (sym (ap percent_decode only.1 ∙ says.spells.decoded)) says.spells.named.text)

    end : List ℕ
    end = bytes_of ends.end

    spelt : IsNameLine (line ++ end) (percent_decode (word ++ end))
    spelt = record {
      short = omega (arith, says.short, length-append line end, length-append line more, ends.short, first_short more next.first next.behind next.is);
      other = λ first. says.other (same_first line more some ∙ sym (same_first line end some) ∙ first);
      word = word ++ end;
      one = words_on line end last end [] (no_space end (end_big ends.end.count ends.end.value ends.end.number ends.end.few_digits)) ∙ ap (λ (ws : List (List ℕ)). ws ++ (word ++ end) ∷ []) only.0;
      spells = record {
        escapes = ends.escapes;
        decoded = refl;
        named = record {
          text = ends.text;
          some = omega (arith, (length-percent_decode (word ++ end)).1, length-append word end);
          short = omega (arith, ends.few, says.spells.named.short, ap (λ (bs : List ℕ). length bs) (ap percent_decode only.1 ∙ says.spells.decoded));
        };
      };
    }

pub line_tried : (line : List ℕ) → ¬ EndsWithSpace line → ¬ IsSkipped line → MayBecomeName line → IsTried line
line_tried line open' other (inl skipped) = absurd (other skipped)
line_tried line open' other (inr (more, name, says)) = at line open' other says
  where
    at : (line : List ℕ) → ¬ EndsWithSpace line → ¬ IsSkipped line → IsNameLine (line ++ more) name → IsTried line
    at [] open' other says = absurd (other (inr refl))
    at (b ∷ line) open' other says = elim (last_word (b ∷ line) (omega arith)) [
      | inl ends ↦ absurd (open' ends)
      | inr last ↦ word_tried (b ∷ line) more name last (omega arith) says
    ]
