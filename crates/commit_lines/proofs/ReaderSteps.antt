-- What is kept of bytes as they are read.
use Rattle.std.proofs.Common.{◌≡◌, ◌≢◌, ℕ, ◌+◌, ◌<◌, ◌≤◌, inl, inr, List, [], ◌∷◌, ◌++◌, length, get_or, take, refl, sym, ap, subst, ◌∙◌, arith, length-append}
use Rattle.std.{specs.Prelude.Contains, specs.List.AllPairs, proofs.lemmas.Bool.cases_lt, proofs.lemmas.List.{length-take, get_or_append_left}}
use Rattle.std.proofs.{lemmas.List.Elements.Contains-get_or, Math.Seq.get_or-append_seam, lemmas.Grind.common_steps}
use Rattle.line_text.{specs.Lines.lines_of, proofs.Parts.{goes_on, last_part, one_front}}
use Rattle.line_pieces.specs.declared.stop.{Refusal.Refusal, Refusal.TheVariants.Bad, Stop.Stop, Stop.TheVariants.Refused}
use Rattle.commit_lines.specs.Lines.{IsSkipped, IsNameLine, AreNames, MayBecomeName, MayGo}
use Rattle.commit_lines.specs.Reading.{AreAccepted, Breaks, IsFirstRefused, FrontRefuses, MayGoOn}
use Rattle.commit_lines.specs.HasRead.{IsLong, Keeps, Kept, HasKept, ShowsRefused, EndsRefused, TakesLine}
use Rattle.commit_lines.proofs.Words.{both_skipped, turned, skipped_more, same_skipped, front_skipped}
use Rattle.line_pieces.{specs.Pieces.{HasNoLineFeed, OnRefused}, proofs.Lines.{is_feed, one_part, ended, on_refused-weaker}}

-- ---- no bytes

pub has_none : (kept : Kept) → kept.names ≡ [] → kept.whole_lines ≡ 0 → kept.line ≡ [] → HasKept [] kept
has_none kept none whole begun = record {
  lines = [];
  rest = [];
  begun = grind (arith, common_steps);
  whole = whole;
  keeps = inl (begun, omega arith);
}

-- ---- a part of a line more

-- all is kept but the line
pub record Grows (old new : Kept) : Type 0 where
  pub names : new.names ≡ old.names
  pub whole : new.whole_lines ≡ old.whole_lines

has_part : (read part : List ℕ) (old new : Kept) (has : HasKept read old) → HasNoLineFeed part → Grows old new
    → Keeps new.line (has.rest ++ part) → HasKept (read ++ part) new
has_part read part old new has none grows keeps = record {
  lines = has.lines;
  rest = has.rest ++ part;
  begun = grind (arith, common_steps, goes_on, is_feed, one_part);
  whole = grows.whole ∙ has.whole;
  keeps = keeps;
}

keeps_short : (line rest part : List ℕ) → Keeps line rest → length (line ++ part) ≤ 4_096 → Keeps (line ++ part) (rest ++ part)
keeps_short line rest part x3 short = grind (arith, common_steps)

pub has_short : (read part : List ℕ) (old new : Kept) → HasNoLineFeed part → Grows old new → new.line ≡ old.line ++ part → length (old.line ++ part) ≤ 4_096
    → HasKept read old → HasKept (read ++ part) new
has_short read part old new none grows is short has =
    has_part read part old new has none grows (subst (λ (bs : List ℕ). Keeps bs (has.rest ++ part)) (sym is) (keeps_short old.line has.rest part has.keeps short))

-- a line that is longer than a line may be is skipped on
keeps_long : (line rest part : List ℕ) → Keeps line rest → 4_096 < length (line ++ part) → IsSkipped (line ++ part) → IsLong (line ++ part) (rest ++ part)
keeps_long line rest part x3 long skipped = grind (arith, common_steps, length, same_skipped, length-append, skipped_more)

front_long : (line rest : List ℕ) → IsLong line rest → IsLong (take 4_097 line) rest
front_long line rest long = record {
  kept_long = omega (arith, long.kept_long, length-take 4_097 line);
  long = long.long;
  skipped = front_skipped line rest 4_097 (omega arith) long.skipped;
}

pub has_long : (read part : List ℕ) (old new : Kept) → HasNoLineFeed part → Grows old new → new.line ≡ take 4_097 (old.line ++ part) → 4_096 < length (old.line ++ part)
    → IsSkipped (old.line ++ part) → HasKept read old → HasKept (read ++ part) new
has_long read part old new none grows is long skipped has =
    has_part read part old new has none grows
    (inr (subst (λ (bs : List ℕ). IsLong bs (has.rest ++ part)) (sym is) (front_long (old.line ++ part) (has.rest ++ part) (keeps_long old.line has.rest part has.keeps long skipped))))

never_name : (line rest part : List ℕ) → Keeps line rest → 4_096 < length (line ++ part) → ¬ IsSkipped (line ++ part) → ¬ MayBecomeName (rest ++ part)
never_name line rest part (inl (is, few)) long other (inl skipped) = other (subst (λ (bs : List ℕ). IsSkipped (bs ++ part)) (sym is) skipped)
never_name line rest part (inl (is, few)) long other (inr (more, name, says)) = grind (arith, common_steps)
never_name line rest part (inr was) long other (inl skipped) =
    other (both_skipped (rest ++ part) (line ++ part) (skipped_more rest line part (turned line rest was.skipped) (omega (arith, was.long)) (omega (arith, was.kept_long)) skipped)).1
never_name line rest part (inr was) long other (inr (more, name, says)) = grind (arith, common_steps)

pub long_refused : (read part : List ℕ) (old : Kept) (number : ℕ) → HasNoLineFeed part → number ≡ old.whole_lines + 1 → 4_096 < length (old.line ++ part)
    → ¬ IsSkipped (old.line ++ part) → HasKept read old → ShowsRefused (read ++ part) (Refused Bad number)
long_refused read part old number none is long other has =
    inr (
      has.lines,
      has.rest ++ part,
      old.names,
      record {
        split = goes_on is_feed read part has.lines has.rest part [] has.begun.split (one_part part none);
        accepted = has.begun.accepted;
      },
      refl,
      is ∙ ap (λ (n : ℕ). n + 1) has.whole,
      λ may. never_name old.line has.rest part has.keeps long other may.becomes,
    )

-- ---- one line more that is accepted

skipped-append : (lines names : List (List ℕ)) (line : List ℕ) → AreNames lines names → IsSkipped line → AreNames (lines ++ line ∷ []) names
skipped-append [] names line are skipped = inl (skipped, are)
skipped-append (first ∷ lines) names line (inl (is, are)) skipped = inl (is, skipped-append lines names line are skipped)
skipped-append (first ∷ lines) names line (inr (name, rest, split, is, are)) skipped = inr (name, rest, split, is, skipped-append lines rest line are skipped)

name-append : (lines names : List (List ℕ)) (line name : List ℕ) → AreNames lines names → IsNameLine line name → AreNames (lines ++ line ∷ []) (names ++ name ∷ [])
name-append [] names line name are is = inr (name, [], ap (λ (ns : List (List ℕ)). ns ++ name ∷ []) are, is, refl)
name-append (first ∷ lines) names line name (inl (skipped, are)) is = inl (skipped, name-append lines names line name are is)
name-append (first ∷ lines) names line name (inr (other, rest, split, its, are)) is =
    inr (other, rest ++ name ∷ [], ap (λ (ns : List (List ℕ)). ns ++ name ∷ []) split, its, name-append lines rest line name are is)

-- a name that is new is different from all
apart-append : (names : List (List ℕ)) (name : List ℕ) → AllPairs (λ (one other : List ℕ). one ≢ other) names → ¬ Contains names name
    → AllPairs (λ (one other : List ℕ). one ≢ other) (names ++ name ∷ [])
apart-append names name apart fresh i j d less within = elim (cases_lt j (length names)) [
  | inl early ↦ λ (same : get_or (names ++ name ∷ []) i d ≡ get_or (names ++ name ∷ []) j d).
      let one : get_or (names ++ name ∷ []) i d ≡ get_or names i d = get_or_append_left names (name ∷ []) d i (omega arith) in
      let two : get_or (names ++ name ∷ []) j d ≡ get_or names j d = get_or_append_left names (name ∷ []) d j early in
      apart i j d less early (sym one ∙ same ∙ two)
  | inr last ↦ λ (same : get_or (names ++ name ∷ []) i d ≡ get_or (names ++ name ∷ []) j d).
      let count : length (names ++ name ∷ []) ≡ length names + 1 = length-append names (name ∷ []) in
      let at : j ≡ length names = omega arith in
      let one : get_or (names ++ name ∷ []) i d ≡ get_or names i d = get_or_append_left names (name ∷ []) d i (omega arith) in
      let two : get_or (names ++ name ∷ []) j d ≡ name = ap (λ (k : ℕ). get_or (names ++ name ∷ []) k d) at ∙ get_or-append_seam names name [] d in
      fresh (subst (Contains names) (sym one ∙ same ∙ two) (Contains-get_or names i d (omega arith)))
]

accepts : (lines names : List (List ℕ)) (line : List ℕ) (next : List (List ℕ)) → AreAccepted lines names → TakesLine line names next → AreAccepted (lines ++ line ∷ []) next
accepts lines names line next are x5 = grind (arith, common_steps, skipped-append, name-append, apart-append, length-append)

-- ---- the end of a line

-- there is one whole line more, and none has begun
pub record Ends (old new : Kept) : Type 0 where
  pub whole : new.whole_lines ≡ old.whole_lines + 1
  pub line : new.line ≡ []

has_line : (read : List ℕ) (old new : Kept) (has : HasKept read old) → Ends old new → TakesLine has.rest old.names new.names → HasKept (read ++ 10 ∷ []) new
has_line read old new has ends takes = record {
  lines = has.lines ++ has.rest ∷ [];
  rest = [];
  begun = record {
    split = ended read has.lines has.rest has.begun.split;
    accepted = accepts has.lines old.names has.rest new.names has.begun.accepted takes;
  };
  whole = ends.whole ∙ ap (λ n. n + 1) has.whole ∙ sym (length-append has.lines (has.rest ∷ []));
  keeps = inl (ends.line, omega arith);
}

-- a short line is kept whole
kept_whole : (line rest : List ℕ) → Keeps line rest → length line ≤ 4_096 → line ≡ rest
kept_whole line rest x2 short = grind (arith, common_steps)

long_skipped : (line rest : List ℕ) → Keeps line rest → 4_096 < length line → IsSkipped rest
long_skipped line rest x2 long = grind (arith, common_steps)

pub line_taken : (read : List ℕ) (old new : Kept) → Ends old new → length old.line ≤ 4_096 → TakesLine old.line old.names new.names → HasKept read old → HasKept (read ++ 10 ∷ []) new
line_taken read old new ends short takes has =
    has_line read old new has ends (subst (λ (bs : List ℕ). TakesLine bs old.names new.names) (kept_whole old.line has.rest has.keeps short) takes)

pub long_taken : (read : List ℕ) (old new : Kept) → Ends old new → 4_096 < length old.line → new.names ≡ old.names → HasKept read old → HasKept (read ++ 10 ∷ []) new
long_taken read old new ends long same has = has_line read old new has ends (inl (long_skipped old.line has.rest has.keeps long, same))

pub line_refused : (read : List ℕ) (old : Kept) (number : ℕ) (stop : Stop) → number ≡ old.whole_lines + 1 → length old.line ≤ 4_096
    → OnRefused (λ why k. (k ≡ number) × Breaks why old.names old.line) stop → HasKept read old → EndsRefused read stop × ShowsRefused (read ++ 10 ∷ []) stop
line_refused read old number stop is short refuses has = (
  on_refused-weaker (λ why k. (k ≡ number) × Breaks why old.names old.line) (λ why k. IsFirstRefused why (lines_of read) k) stop
      (λ why k told. subst (λ (ls : List (List ℕ)). IsFirstRefused why ls k) (sym has.begun.split) (last why k told)) refuses,
  on_refused-weaker (λ why k. (k ≡ number) × Breaks why old.names old.line) (λ why k. FrontRefuses why (read ++ 10 ∷ []) k) stop
      (λ why k told. inl (has.lines ++ has.rest ∷ [], [], ended read has.lines has.rest has.begun.split, last why k told)) refuses,
)
  where
    last : (why : Refusal) (k : ℕ) → (k ≡ number) × Breaks why old.names old.line → IsFirstRefused why (has.lines ++ has.rest ∷ []) k
    last why k (own, refused) = record {
      before = has.lines;
      line = has.rest;
      behind = [];
      names = old.names;
      split = refl;
      number = own ∙ is ∙ ap (λ (n : ℕ). n + 1) has.whole;
      accepted = has.begun.accepted;
      refused = subst (Breaks why old.names) (kept_whole old.line has.rest has.keeps short) refused;
    }

-- ---- a line that has begun

pub is_open : (read : List ℕ) (old : Kept) → (length old.line ≤ 4_096 → MayGo old.names old.line) → HasKept read old → MayGoOn read
is_open read old may has = grind (arith, common_steps)

pub not_open : (read : List ℕ) (old : Kept) (number : ℕ) → number ≡ old.whole_lines + 1 → length old.line ≤ 4_096 → ¬ MayGo old.names old.line → HasKept read old
    → ShowsRefused read (Refused Bad number)
not_open read old number is short never has =
    inr (
      has.lines,
      has.rest,
      old.names,
      has.begun,
      refl,
      is ∙ ap (λ (n : ℕ). n + 1) has.whole,
      λ may. never (subst (MayGo old.names) (sym (kept_whole old.line has.rest has.keeps short)) may),
    )

-- ---- the end of the bytes

pub accepted_whole : (read : List ℕ) (kept : Kept) → HasKept (read ++ 10 ∷ []) kept → AreAccepted (lines_of read) kept.names
accepted_whole read kept has =
    let part = last_part is_feed read in
    let both = one_front has.lines (part.before ++ part.last ∷ []) has.rest [] (sym has.begun.split ∙ ended read part.before part.last part.is) in
    subst (λ lines. AreAccepted lines kept.names) (both.0 ∙ sym part.is) has.begun.accepted
