-- What is kept of bytes as they are read.
use Rattle.std.proofs.Common.{◌≡◌, ◌≢◌, ℕ, ℤ, ◌+◌, ◌-◌, ◌<◌, ◌≤◌, ◌⊎◌, inl, inr, List, [], ◌∷◌, ◌++◌, length, take, drop, refl, sym, ap, subst, ◌∙◌, arith, append-nil, append_assoc, length-append, suc, min}
use Rattle.std.proofs.lemmas.{List.{take_all, length-take}, Bool.cases_lt}
use Rattle.segment_model.specs.Segments.{Position, values_of}
use Rattle.line_text.{specs.Lines.{lines_of, words_of}, proofs.Parts.{goes_on, last_part, one_front}}
use Rattle.line_pieces.specs.declared.stop.{Refusal.Refusal, Refusal.TheVariants.{Bad, Full}, Stop.Stop, Stop.TheVariants.Refused}
use Rattle.cut_lines.specs.{Lines.{CutLine, IsSkipped, IsCutLine, IsGood, MayBecomeGood}, Points.{points_of, FitsWithin}}
use Rattle.cut_lines.specs.{Reading.{AreAcceptedWithin, IsFirstRefusedWithin, BreaksWithin, MayGoOnWithin, with_line}, LineKinds.{StaysSkipped, HasWord}}
use Rattle.cut_lines.specs.Adding.{with_value_of, PassesLimit, BreaksPoints, AddsValue, TakesLine, RefusesLine}
use Rattle.cut_lines.specs.HasRead.{Kept, HasKept, AreLinesPoints, ShowsRefused, EndsRefused}
use Rattle.cut_lines.proofs.Kept.{short_kept, Long, kept_long, comment_kept, blank_kept, not_blank, long_length}
use Rattle.line_pieces.{specs.Pieces.HasNoLineFeed, proofs.Lines.{is_feed, one_part, ended, on_refused-weaker}}
use Rattle.cut_lines.proofs.{Accepting.{accepts_skipped, accepts_cut, first_refused, ended_refused}, LinePoints.{points-push, values-counted}}

-- ---- no bytes

pub has_none : (kept : Kept) → kept.points ≡ [] → kept.whole_lines ≡ 0 → kept.line ≡ [] → HasKept [] kept
has_none kept none whole begun = record {
  lines = [];
  rest = [];
  cuts = [];
  split = refl;
  accepted = record {
    read = refl;
    fits = record { few_values = omega arith; few_positions = omega arith };
  };
  points = none;
  whole = whole;
  begun = begun;
  skipped = λ long. absurd (omega arith);
}

-- ---- a part of a line more

-- all is kept but the line, which has the part more
pub record Grows (old new : Kept) : Type 0 where
  pub most : new.most ≡ old.most
  pub points : new.points ≡ old.points
  pub whole : new.whole_lines ≡ old.whole_lines

has_part : (read part : List ℕ) (old new : Kept) (has : HasKept read old) → HasNoLineFeed part → Grows old new
    → new.line ≡ take 4_097 (has.rest ++ part) → (4_096 < length (has.rest ++ part) → IsSkipped (has.rest ++ part)) → HasKept (read ++ part) new
has_part read part old new has none grows kept skipped = record {
  lines = has.lines;
  rest = has.rest ++ part;
  cuts = has.cuts;
  split = goes_on is_feed read part has.lines has.rest part [] has.split (one_part part none);
  accepted = subst (λ m. AreAcceptedWithin m has.lines has.cuts) (sym grows.most) has.accepted;
  points = grows.points ∙ has.points;
  whole = grows.whole ∙ has.whole;
  begun = kept;
  skipped = skipped;
}

pub has_short : (read part : List ℕ) (old new : Kept) → HasNoLineFeed part → Grows old new → length part < 4_097 - length old.line
    → new.line ≡ old.line ++ part → HasKept read old → HasKept (read ++ part) new
has_short read part old new none grows few is has =
    let both = short_kept 4_097 has.rest part old.line has.begun few in
    has_part read part old new has none grows (is ∙ both.0) (λ long. absurd (omega (arith, both.1)))

too_long : (line : List ℕ) → 4_096 < length line → ¬ IsSkipped line → ¬ IsGood line
too_long line long other (inl skipped) = other skipped
too_long line long other (inr (order, value, cut)) = omega (arith, cut.short)

-- what the line kept with as many bytes of a part as there was room for, and what came behind them
pub record Extends (old : Kept) (part : List ℕ) (room : ℕ) (line behind : List ℕ) : Type 0 where
  pub room_is : room ≡ 4_097 - length old.line
  pub fits : room ≤ length part
  pub kept : line ≡ old.line ++ take room part
  pub behind_is : behind ≡ drop room part

module _ (read part : List ℕ) (old : Kept) (room : ℕ) (line behind : List ℕ) (none : HasNoLineFeed part) (extends : Extends old part room line behind) (has : HasKept read old) where
  long : Long 4_097 has.rest part old.line line
  long = record {
    kept = has.begun;
    some = omega arith;
    room = subst (λ n. n ≤ length part) extends.room_is extends.fits;
    grown = subst (λ n. line ≡ old.line ++ take n part) extends.room_is extends.kept;
  }

  many : 4_097 ≤ length (has.rest ++ part)
  many = long_length 4_097 has.rest part old.line has.begun long.room

  end_is : behind ≡ drop (4_097 - length old.line) part
  end_is = subst (λ n. behind ≡ drop n part) extends.room_is extends.behind_is

  long_skipped : StaysSkipped line room behind → IsSkipped (has.rest ++ part)
  long_skipped (inl first) = comment_kept 4_097 (has.rest ++ part) line (kept_long 4_097 has.rest part old.line line long) (omega arith) many first
  long_skipped (inr (other, blank, end)) =
      inr (blank_kept 4_097 has.rest part old.line line long (λ more. has.skipped (omega arith)) other (subst (λ n. 0 < n → words_of line ≡ []) extends.room_is blank)
      (ap words_of (sym end_is) ∙ end))

  pub has_long : (new : Kept) → Grows old new → new.line ≡ line → StaysSkipped line room behind → HasKept (read ++ part) new
  has_long new grows is stays =
      has_part read part old new has none grows (is ∙ kept_long 4_097 has.rest part old.line line long) (λ more. long_skipped stays)

  -- a line that is longer than a line may be, with a word and no #, is refused, whatever comes behind it
  pub long_refused : (number : ℕ) → number ≡ old.whole_lines + 1 → HasWord line behind → ShowsRefused old.most (read ++ part) (Refused Bad number)
  long_refused number is word more =
      first_refused old.most Bad (read ++ part) has.lines (has.rest ++ part) has.cuts number more
      (goes_on is_feed read part has.lines has.rest part [] has.split (one_part part none)) has.accepted (is ∙ ap (λ n. n + 1) has.whole)
      (λ first.
      let count : length ((has.rest ++ part) ++ first) ≡ length (has.rest ++ part) + length first = length-append (has.rest ++ part) first in
      let all = many in
      too_long ((has.rest ++ part) ++ first) (omega arith)
      (not_blank 4_097 has.rest part old.line line first long word.0 (subst (λ bs. (words_of line ≢ []) ⊎ (words_of bs ≢ [])) end_is word.1)))

-- ---- the end of a line

-- there is one whole line more, and none has begun
pub record Ends (old new : Kept) : Type 0 where
  pub most : new.most ≡ old.most
  pub whole : new.whole_lines ≡ old.whole_lines + 1
  pub line : new.line ≡ []

has_line : (read : List ℕ) (old new : Kept) (has : HasKept read old) (cuts : List CutLine) → Ends old new
    → AreAcceptedWithin old.most (has.lines ++ has.rest ∷ []) cuts → new.points ≡ points_of cuts → HasKept (read ++ 10 ∷ []) new
has_line read old new has cuts ends are points = record {
  lines = has.lines ++ has.rest ∷ [];
  rest = [];
  cuts = cuts;
  split = ended read has.lines has.rest has.split;
  accepted = subst (λ m. AreAcceptedWithin m (has.lines ++ has.rest ∷ []) cuts) (sym ends.most) are;
  points = points;
  whole = ends.whole ∙ ap (λ n. n + 1) has.whole ∙ sym (length-append has.lines (has.rest ∷ []));
  begun = ends.line;
  skipped = λ long. absurd (omega arith);
}

-- the line is kept whole
rest_is : (read : List ℕ) (old : Kept) (has : HasKept read old) → length old.line ≤ 4_096 → has.rest ≡ old.line
rest_is read old has short =
    let count : length (take 4_097 has.rest) ≤ 4_096 = subst (λ (bs : List ℕ). length bs ≤ 4_096) has.begun short in
    sym (take_all 4_097 has.rest (taken_all 4_096 has.rest count)) ∙ sym has.begun
  where
    taken_all : (most : ℕ) (bytes : List ℕ) → length (take (suc most) bytes) ≤ most → length bytes ≤ suc most
    taken_all most bytes few = omega (arith, length-take (suc most) bytes)

pub has_skipped : (read : List ℕ) (old new : Kept) → Ends old new → new.points ≡ old.points → (length old.line ≤ 4_096 → IsSkipped old.line)
    → HasKept read old → HasKept (read ++ 10 ∷ []) new
has_skipped read old new ends same skipped has =
    has_line read old new has has.cuts ends
    (accepts_skipped old.most has.lines has.cuts has.rest has.accepted (at (cases_lt 4_096 (length old.line))))
    (same ∙ has.points)
  where
    at : (4_096 < length old.line) ⊎ (length old.line ≤ 4_096) → IsSkipped has.rest
    at (inl long) =
        let count : length old.line ≡ min 4_097 (length has.rest) = ap (λ (bs : List ℕ). length bs) has.begun ∙ length-take 4_097 has.rest in
        has.skipped (omega arith)
    at (inr short) = subst IsSkipped (sym (rest_is read old has short)) (skipped short)

-- a value that came in
has_cut : (read : List ℕ) (old new : Kept) (number order : ℕ) (value : ℤ) → Ends old new → number ≡ old.whole_lines + 1
    → IsCutLine old.line order value → AddsValue old.most number order value old.points new.points → HasKept read old → HasKept (read ++ 10 ∷ []) new
has_cut read old new number order value ends is cut adds has =
    let points : new.points ≡ points_of (with_line has.cuts number order value) =
    adds.added ∙ ap (λ ps. with_value_of ps number order value) has.points ∙ sym (points-push has.cuts (record { number = number; order = order; value = value })) in
    let count : length (values_of new.points) ≡ length (with_line has.cuts number order value) =
    ap (λ ps. length (values_of ps)) points ∙ values-counted (with_line has.cuts number order value) in
    has_line read old new has (with_line has.cuts number order value) ends
    (accepts_cut old.most has.lines has.cuts has.rest number order value has.accepted (is ∙ ap (λ n. n + 1) has.whole)
    (subst (λ line. IsCutLine line order value) (sym (rest_is read old has cut.short)) cut)
    (record {
      few_values = omega (arith, count, adds.limits.few_values);
      few_positions = subst (λ (ps : List Position). length ps ≤ old.most) points adds.few;
    }))
    points

-- ---- a line that is refused at its end

no_room : (most : ℕ) (cuts : List CutLine) (points : List Position) (number order : ℕ) (value : ℤ) → points ≡ points_of cuts
    → PassesLimit most points number order value → ¬ FitsWithin most (with_line cuts number order value)
no_room most cuts points number order value are (inl many) fits =
    let count : length (with_line cuts number order value) ≡ length cuts + 1 = length-append cuts (record { number = number; order = order; value = value } ∷ []) in
    let values : length (values_of points) ≡ length cuts = ap (λ ps. length (values_of ps)) are ∙ values-counted cuts in
    omega (arith, fits.few_values)
no_room most cuts points number order value are (inr many) fits =
    let same : points_of (with_line cuts number order value) ≡ with_value_of points number order value =
    points-push cuts (record { number = number; order = order; value = value }) ∙ ap (λ ps. with_value_of ps number order value) (sym are) in
    let few : length (with_value_of points number order value) ≤ most = subst (λ (ps : List Position). length ps ≤ most) same fits.few_positions in
    omega arith

-- what refuses a line behind the points refuses it behind their lines
breaks : (most : ℕ) (why : Refusal) (cuts : List CutLine) (points : List Position) (number : ℕ) (line : List ℕ) → points ≡ points_of cuts
    → BreaksPoints most why points number line → BreaksWithin most why cuts number line
breaks most Bad cuts points number line are bad = bad
breaks most Full cuts points number line are (order, value, cut, passes) = (order, value, cut, no_room most cuts points number order value are passes)

pub line_refused : (read : List ℕ) (old : Kept) (number : ℕ) (stop : Stop) → number ≡ old.whole_lines + 1 → RefusesLine old.most old.line number old.points stop
    → HasKept read old → EndsRefused old.most read stop × ShowsRefused old.most (read ++ 10 ∷ []) stop
line_refused read old number stop is refuses has = (
  on_refused-weaker _ (λ why k. IsFirstRefusedWithin old.most why (lines_of read) k) stop (λ why k holds. (ends why k holds).0) refuses,
  on_refused-weaker _ (λ why k. (more : List ℕ) → IsFirstRefusedWithin old.most why (lines_of ((read ++ 10 ∷ []) ++ more)) k) stop (λ why k holds. (ends why k holds).1) refuses,
)
  where
    ends : (why : Refusal) (k : ℕ) → (k ≡ number) × (length old.line ≤ 4_096) × BreaksPoints old.most why old.points number old.line
        → IsFirstRefusedWithin old.most why (lines_of read) k × ((more : List ℕ) → IsFirstRefusedWithin old.most why (lines_of ((read ++ 10 ∷ []) ++ more)) k)
    ends why k (own, short, refused) =
        ended_refused old.most why read has.lines has.rest has.cuts k has.split has.accepted (own ∙ is ∙ ap (λ n. n + 1) has.whole)
        (breaks old.most why has.cuts old.points k has.rest has.points
        (subst (λ line. BreaksPoints old.most why old.points k line) (sym (rest_is read old has short)) (subst (λ n. BreaksPoints old.most why old.points n old.line) (sym own) refused)))

-- the line is taken, as the points say
pub line_taken : (read : List ℕ) (old new : Kept) (number : ℕ) → Ends old new → number ≡ old.whole_lines + 1
    → TakesLine old.most old.line number old.points new.points → HasKept read old → HasKept (read ++ 10 ∷ []) new
line_taken read old new number ends is (inl (skipped, same)) has = has_skipped read old new ends same skipped has
line_taken read old new number ends is (inr (order, value, cut, adds)) has = has_cut read old new number order value ends is cut adds has

-- ---- a line that is read at once

-- the line, of which nothing was kept before
abbrev pub with_part : Kept → List ℕ → Kept
with_part kept part = record { most = kept.most; points = kept.points; whole_lines = kept.whole_lines; line = part }

has_begun : (read part : List ℕ) (old : Kept) → HasNoLineFeed part → old.line ≡ [] → length part ≤ 4_096 → HasKept read old → HasKept (read ++ part) (with_part old part)
has_begun read part old none empty short has =
    has_short read part old (with_part old part) none (record { most = refl; points = refl; whole = refl })
    (subst (λ (bs : List ℕ). length part < 4_097 - length bs) (sym empty) (omega arith)) (sym (ap (λ bs. bs ++ part) empty)) has

pub whole_taken : (read part : List ℕ) (old new : Kept) (number : ℕ) → HasNoLineFeed part → old.line ≡ [] → length part ≤ 4_096 → Ends old new → number ≡ old.whole_lines + 1
    → TakesLine old.most part number old.points new.points → HasKept read old → HasKept (read ++ (part ++ 10 ∷ [])) new
whole_taken read part old new number none empty short ends is takes has =
    subst (λ bs. HasKept bs new) (append_assoc read part (10 ∷ []))
    (line_taken (read ++ part) (with_part old part) new number (record { most = ends.most; whole = ends.whole; line = ends.line }) is takes (has_begun read part old none empty short has))

pub whole_refused : (read part : List ℕ) (old : Kept) (number : ℕ) (stop : Stop) → HasNoLineFeed part → old.line ≡ [] → length part ≤ 4_096 → number ≡ old.whole_lines + 1
    → RefusesLine old.most part number old.points stop → HasKept read old → ShowsRefused old.most (read ++ (part ++ 10 ∷ [])) stop
whole_refused read part old number stop none empty short is refuses has =
    subst (λ bs. ShowsRefused old.most bs stop) (append_assoc read part (10 ∷ []))
    (line_refused (read ++ part) (with_part old part) number stop is refuses (has_begun read part old none empty short has)).1

-- ---- a line that bytes behind may make good

pub is_open : (read : List ℕ) (old : Kept) → (length old.line ≤ 4_096 → MayBecomeGood old.line) → HasKept read old → MayGoOnWithin old.most read
is_open read old may has =
    record { lines = has.lines; rest = has.rest; cuts = has.cuts; split = has.split; accepted = has.accepted; may = at (cases_lt 4_096 (length old.line)) }
  where
    at : (4_096 < length old.line) ⊎ (length old.line ≤ 4_096) → MayBecomeGood has.rest
    at (inl long) =
        let count : length old.line ≡ min 4_097 (length has.rest) = ap (λ (bs : List ℕ). length bs) has.begun ∙ length-take 4_097 has.rest in
        ([], λ k d none. absurd (omega arith), inl (subst IsSkipped (sym (append-nil has.rest)) (has.skipped (omega arith))))
    at (inr short) = subst MayBecomeGood (sym (rest_is read old has short)) (may short)

pub not_open : (read : List ℕ) (old : Kept) (number : ℕ) → number ≡ old.whole_lines + 1 → length old.line ≤ 4_096
    → ((more : List ℕ) → ¬ IsGood (old.line ++ more)) → HasKept read old → ShowsRefused old.most read (Refused Bad number)
not_open read old number is short never has more =
    first_refused old.most Bad read has.lines has.rest has.cuts number more has.split has.accepted (is ∙ ap (λ n. n + 1) has.whole)
    (λ first good. never first (subst (λ line. IsGood (line ++ first)) (rest_is read old has short) good))

-- ---- the end of the bytes

-- the lines of bytes whose last line ended are accepted
pub accepted_whole : (read : List ℕ) (kept : Kept) → HasKept (read ++ 10 ∷ []) kept → AreLinesPoints kept.most read kept.points
accepted_whole read kept has =
    let part = last_part is_feed read in
    let both = one_front has.lines (part.before ++ part.last ∷ []) has.rest [] (sym has.split ∙ ended read part.before part.last part.is) in
    (has.cuts, subst (λ lines. AreAcceptedWithin kept.most lines has.cuts) (both.0 ∙ sym part.is) has.accepted, has.points)
