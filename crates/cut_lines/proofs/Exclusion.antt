-- No bytes have two stops, nor points and a stop.
use Rattle.std.proofs.Common.{◌≡◌, ℕ, ℤ, pos, negsuc, suc, ◌+◌, ◌^◌, ◌<◌, ◌≤◌, ◌⊎◌, inl, inr, zero, List, [], ◌∷◌, ◌++◌, length, filter, decimal, unsigned_abs, refl, sym, ap, ap₂, subst, ◌∙◌, arith, append-nil, length-append, add-zero}
use Rattle.std.{specs.Fmt.signed_decimal, specs.List.{slice_split, onto_first}, specs.Str.Parse.AllDigits, proofs.lemmas.Fmt.decimal_is_IsNumeral}
use Rattle.std.proofs.lemmas.{Str.Parse.digit_from_value, List.{append_assoc, take_all}, Bool.cases_order}
use Rattle.line_text.{specs.Lines.{lines_of, words_of, is_word}, proofs.SignedWords.{one_number, no_minus, behind_minus}, proofs.Parts.{first_part, goes_on}}
use Rattle.line_pieces.{proofs.Fronts.{goes_past, one_split}, specs.declared.stop.Refusal.Refusal, specs.declared.stop.Refusal.TheVariants.{Bad, Full}}
use Rattle.line_pieces.specs.{declared.stop.Stop.Stop, declared.stop.Stop.TheVariants.{Fault, TooLong, Refused, NoMemory}, Stops.within_limit}
use Rattle.segment_model.specs.Segments.{Position}
use Rattle.cut_lines.specs.{Lines.{CutLine, IsSkipped, IsCutLine, IsGood, AreCutLines}, Points.FitsWithin}
use Rattle.cut_lines.specs.Reading.{AreAcceptedWithin, with_line, BreaksWithin, IsFirstRefusedWithin, RefusesWithin, MayGoOnWithin, IsTooLongWithin, AreCutLinesWithin, ArePointsWithin}
use Rattle.cut_lines.{specs.Stops.BytesShowWithin, proofs.OpenLines.{HasNumbers, EndsWell, ends_well}, proofs.LinePoints.fits_front}
use Rattle.line_text.proofs.Blank.{is_space, word_first}
use Rattle.line_pieces.proofs.Lines.{is_feed}

-- ---- a line says one thing

comment_digit : (order : ℕ) (rest : List ℕ) → order < 2 ^ 64 → decimal order ≡ 35 ∷ rest → ⊥
comment_digit order rest fits is =
    let digits : AllDigits 10 (35 ∷ rest) = subst (AllDigits 10) is (decimal_is_IsNumeral order fits).0.1 in
    let digit = digit_from_value 35 digits.0 in
    omega (arith, digit.0)

comment_words : (more : List ℕ) (order : ℕ) (other : List ℕ) → order < 2 ^ 64 → words_of (35 ∷ more) ≡ decimal order ∷ other ∷ [] → ⊥
comment_words more order other fits words =
    let part = first_part is_space more in
    let split : slice_split is_space (35 ∷ more) ≡ (35 ∷ part.first) ∷ part.behind = ap (onto_first 35) part.is in
    let first : words_of (35 ∷ more) ≡ (35 ∷ part.first) ∷ filter is_word part.behind = ap (filter is_word) split ∙ word_first 35 part.first part.behind in
    let same : decimal order ∷ other ∷ [] ≡ (35 ∷ part.first) ∷ filter is_word part.behind = sym words ∙ first in
    let number : decimal order ≡ 35 ∷ part.first = cc in
    comment_digit order part.first fits number

-- a line that is skipped is no cut line
skipped_not_cut : (line : List ℕ) (order : ℕ) (value : ℤ) → IsSkipped line → IsCutLine line order value → ⊥
skipped_not_cut line order value (inl (more, is)) cut = comment_words more order (signed_decimal value) cut.order_fits (ap words_of (sym is) ∙ cut.words)
skipped_not_cut line order value (inr none) cut =
    let never : [] ≡ decimal order ∷ signed_decimal value ∷ [] = sym none ∙ cut.words in
    cc

one_integer : (y z : ℤ) → unsigned_abs y < 10 ^ 64 → unsigned_abs z < 10 ^ 64 → signed_decimal y ≡ signed_decimal z → y ≡ z
one_integer (pos m) (pos n) few small same = ap pos (one_number m n few small same)
one_integer (pos m) (negsuc n) few small same = absurd (no_minus m (suc n) few same)
one_integer (negsuc m) (pos n) few small same = absurd (no_minus n (suc m) small (sym same))
one_integer (negsuc m) (negsuc n) few small same =
    let next : suc m ≡ suc n = one_number (suc m) (suc n) few small (behind_minus (decimal (suc m)) (decimal (suc n)) same) in
    let is : m ≡ n = omega arith in
    ap negsuc is

two_same : (a b c d : List ℕ) → a ∷ b ∷ [] ≡ c ∷ d ∷ [] → (a ≡ c) × (b ≡ d)
two_same a b c d same = (cc, cc)

-- a cut line says one order and one value
one_cut : (line : List ℕ) (order other : ℕ) (value next : ℤ) → IsCutLine line order value → IsCutLine line other next → (order ≡ other) × (value ≡ next)
one_cut line order other value next one two =
    let same = two_same (decimal order) (signed_decimal value) (decimal other) (signed_decimal next) (sym one.words ∙ two.words) in (
      one_number order other (omega (arith, one.order_fits)) (omega (arith, two.order_fits)) same.0,
      one_integer value next (omega (arith, one.value_small)) (omega (arith, two.value_small)) same.1,
    )

one_record : (cut other : CutLine) → cut.number ≡ other.number → cut.order ≡ other.order → cut.value ≡ other.value → cut ≡ other
one_record cut other number order value = λ i. record { number = number i; order = order i; value = value i }

-- the same lines have one list of cut lines
one_list : (n : ℕ) (lines : List (List ℕ)) (cuts other : List CutLine) → AreCutLines n lines cuts → AreCutLines n lines other → cuts ≡ other
one_list n [] cuts other one two = one ∙ sym two
one_list n (line ∷ lines) cuts other (inl (skipped, one)) (inl (again, two)) = one_list (n + 1) lines cuts other one two
one_list n (line ∷ lines) cuts other (inl (skipped, one)) (inr (cut, rest, split, number, is, two)) = absurd (skipped_not_cut line cut.order cut.value skipped is)
one_list n (line ∷ lines) cuts other (inr (cut, rest, split, number, is, one)) (inl (skipped, two)) = absurd (skipped_not_cut line cut.order cut.value skipped is)
one_list n (line ∷ lines) cuts other (inr (cut, rest, split, number, is, one)) (inr (next, more, parts, its, too, two)) =
    let same = one_cut line cut.order next.order cut.value next.value is too in
    let first : cut ≡ next = one_record cut next (number ∙ sym its) same.0 same.1 in
    split ∙ ap₂ (λ (c : CutLine) (cs : List CutLine). c ∷ cs) first (one_list (n + 1) lines rest more one two) ∙ sym parts

-- ---- the first lines of accepted ones

record Parts (n : ℕ) (front back : List (List ℕ)) (cuts : List CutLine) : Type 0 where
  one : List CutLine
  two : List CutLine
  joined : cuts ≡ one ++ two
  before : AreCutLines n front one
  behind : AreCutLines (n + length front) back two

parts_of : (n : ℕ) (front back : List (List ℕ)) (cuts : List CutLine) → AreCutLines n (front ++ back) cuts → Parts n front back cuts
parts_of n [] back cuts are = record { one = []; two = cuts; joined = refl; before = refl; behind = subst (λ m. AreCutLines m back cuts) (sym (add-zero n)) are }
parts_of n (line ∷ front) back cuts (inl (skipped, are)) =
    let rest = parts_of (n + 1) front back cuts are in
    let count : n + 1 + length front ≡ n + suc (length front) = omega arith in
    record { one = rest.one; two = rest.two; joined = rest.joined; before = inl (skipped, rest.before); behind = subst (λ m. AreCutLines m back rest.two) count rest.behind }
parts_of n (line ∷ front) back cuts (inr (cut, more, split, number, is, are)) =
    let rest = parts_of (n + 1) front back more are in
    let count : n + 1 + length front ≡ n + suc (length front) = omega arith in
    record {
      one = cut ∷ rest.one;
      two = rest.two;
      joined = split ∙ ap (λ (cs : List CutLine). cut ∷ cs) rest.joined;
      before = inr (cut, rest.one, refl, number, is, rest.before);
      behind = subst (λ m. AreCutLines m back rest.two) count rest.behind;
    }

-- ---- a refused line is not among accepted ones

-- a line behind the first ones is good, and where it is a cut line, the cut lines up to it begin all of them
record Goes (before : List (List ℕ)) (line : List ℕ) (cuts all : List CutLine) : Type 0 where
  good : IsGood line
  begins : (order : ℕ) (value : ℤ) → IsCutLine line order value → (rest : List CutLine) × (all ≡ with_line cuts (length before + 1) order value ++ rest)

goes : (most : ℕ) (before : List (List ℕ)) (line : List ℕ) (behind : List (List ℕ)) (cuts all : List CutLine)
    → AreCutLines 1 before cuts → AreAcceptedWithin most (before ++ line ∷ behind) all → Goes before line cuts all
goes most before line behind cuts all are accepted = at parts.behind
  where
    parts : Parts 1 before (line ∷ behind) all
    parts = parts_of 1 before (line ∷ behind) all accepted.read

    same : parts.one ≡ cuts
    same = one_list 1 before parts.one cuts parts.before are

    at : AreCutLines (1 + length before) (line ∷ behind) parts.two → Goes before line cuts all
    at (inl (skipped, more)) = record { good = inl skipped; begins = λ order value is. absurd (skipped_not_cut line order value skipped is) }
    at (inr (own, rest, split, number, says, more)) = record {
      good = inr (own.order, own.value, says);
      begins = λ order value is.
          let its : own.number ≡ length before + 1 = omega (arith, number) in
          let two = one_cut line own.order order own.value value says is in
          let one : own ≡ record { number = length before + 1; order = order; value = value } =
          one_record own (record { number = length before + 1; order = order; value = value }) its two.0 two.1 in (
            rest,
            parts.joined ∙ ap₂ (λ (xs ys : List CutLine). xs ++ ys) same (split ∙ ap (λ (c : CutLine). c ∷ rest) one)
                ∙ sym (append_assoc cuts (record { number = length before + 1; order = order; value = value } ∷ []) rest),
          );
    }

not_among : (most : ℕ) (why : Refusal) (before : List (List ℕ)) (line : List ℕ) (behind : List (List ℕ)) (cuts all : List CutLine) (k : ℕ)
    → AreCutLines 1 before cuts → AreAcceptedWithin most (before ++ line ∷ behind) all → k ≡ length before + 1 → BreaksWithin most why cuts k line → ⊥
not_among most why before line behind cuts all k are accepted number refused =
    at why (goes most before line behind cuts all are accepted) (subst (λ n. BreaksWithin most why cuts n line) number refused)
  where
    at : (why : Refusal) → Goes before line cuts all → BreaksWithin most why cuts (length before + 1) line → ⊥
    at Bad past bad = bad past.good
    at Full past (order, value, is, over) =
        let all' = past.begins order value is in
        over (fits_front most (with_line cuts (length before + 1) order value) all'.0 (subst (FitsWithin most) all'.1 accepted.fits))

-- ---- the first refused line is one line

-- a line is refused for one reason
one_reason : (most : ℕ) (why other : Refusal) (cuts : List CutLine) (k : ℕ) (line : List ℕ) → BreaksWithin most why cuts k line → BreaksWithin most other cuts k line → why ≡ other
one_reason most Bad Bad cuts k line one two = refl
one_reason most Full Full cuts k line one two = refl
one_reason most Bad Full cuts k line bad (order, value, is, over) = absurd (bad (inr (order, value, is)))
one_reason most Full Bad cuts k line (order, value, is, over) bad = absurd (bad (inr (order, value, is)))

-- no lines reach past the first refused one and are accepted
not_past : (most : ℕ) (why : Refusal) (lines : List (List ℕ)) (k : ℕ) (first : IsFirstRefusedWithin most why lines k) (two rest : List (List ℕ)) (cuts : List CutLine)
    → lines ≡ two ++ rest → AreAcceptedWithin most two cuts → length first.before < length two → ⊥
not_past most why lines k first two rest cuts split are less =
    let past = goes_past first.before two first.line first.behind rest (sym first.split ∙ split) less in
    not_among most why first.before first.line past.0 first.cuts cuts k first.accepted.read (subst (λ ls. AreAcceptedWithin most ls cuts) past.1 are) first.number first.refused

-- the first refused line is one line, refused for one reason
one_refused : (most : ℕ) (why other : Refusal) (lines : List (List ℕ)) (k j : ℕ) → IsFirstRefusedWithin most why lines k → IsFirstRefusedWithin most other lines j → (why ≡ other) × (k ≡ j)
one_refused most why other lines k j one two = at (cases_order (length one.before) (length two.before))
  where
    at : (length one.before ≡ length two.before) ⊎ ((length one.before < length two.before) ⊎ (length two.before < length one.before)) → (why ≡ other) × (k ≡ j)
    at (inl count) =
        let split = one_split one.before two.before one.line two.line one.behind two.behind (sym one.split ∙ two.split) count in
        let number : j ≡ k = two.number ∙ ap (λ n. n + 1) (sym count) ∙ sym one.number in
        let cuts : two.cuts ≡ one.cuts =
        one_list 1 one.before two.cuts one.cuts (subst (λ ls. AreCutLines 1 ls two.cuts) (sym split.0) two.accepted.read) one.accepted.read in
        let again : BreaksWithin most other one.cuts k one.line =
        subst (λ (x : List CutLine). BreaksWithin most other x k one.line) cuts (subst (λ n. BreaksWithin most other two.cuts n one.line) number (subst (λ l. BreaksWithin most other two.cuts j l) (sym split.1) two.refused)) in
        (one_reason most why other one.cuts k one.line one.refused again, sym number)
    at (inr (inl less)) = absurd (not_past most why lines k one two.before (two.line ∷ two.behind) two.cuts two.split two.accepted less)
    at (inr (inr less)) = absurd (not_past most other lines j two one.before (one.line ∷ one.behind) one.cuts one.split one.accepted less)

-- ---- whole inputs and inputs that are too long have no refused line

no_more : (bytes : List ℕ) → length bytes ≤ 2 ^ 30 → within_limit bytes ++ [] ≡ bytes
no_more bytes short = append-nil (within_limit bytes) ∙ take_all (2 ^ 30) bytes short

done_not_refused : (most : ℕ) (why : Refusal) (bytes : List ℕ) (cuts : List CutLine) (k : ℕ)
    → AreCutLinesWithin most bytes cuts → RefusesWithin most why bytes k → ⊥
done_not_refused most why bytes cuts k done refused =
    let whole : lines_of (within_limit bytes ++ []) ≡ lines_of bytes = ap lines_of (no_more bytes done.short) in
    let first = refused [] (λ short. refl) in
    not_among most why first.before first.line first.behind first.cuts cuts k first.accepted.read
    (subst (λ ls. AreAcceptedWithin most ls cuts) (sym whole ∙ first.split) done.accepted) first.number first.refused

-- the line that has begun is refused, whatever line it becomes
open_refused : (most : ℕ) (why : Refusal) (bytes : List ℕ) (k : ℕ) → 2 ^ 30 < length bytes
    → (open' : MayGoOnWithin most (within_limit bytes)) → RefusesWithin most why bytes k → (more : List ℕ) → lines_of more ≡ more ∷ []
    → (cuts : List CutLine) × BreaksWithin most why cuts k (open'.rest ++ more)
open_refused most why bytes k long open' refused more line = at (cases_order (length first.before) (length open'.lines))
  where
    first : IsFirstRefusedWithin most why (lines_of (within_limit bytes ++ more)) k
    first = refused more (λ short. absurd (omega arith))

    whole : lines_of (within_limit bytes ++ more) ≡ open'.lines ++ (open'.rest ++ more) ∷ []
    whole = goes_on is_feed (within_limit bytes) more open'.lines open'.rest more [] open'.split line

    at : (length first.before ≡ length open'.lines) ⊎ ((length first.before < length open'.lines) ⊎ (length open'.lines < length first.before))
        → (cuts : List CutLine) × BreaksWithin most why cuts k (open'.rest ++ more)
    at (inl count) =
        let split = one_split first.before open'.lines first.line (open'.rest ++ more) first.behind [] (sym first.split ∙ whole) count in
        (first.cuts, subst (λ l. BreaksWithin most why first.cuts k l) split.1 first.refused)
    at (inr (inl less)) =
        absurd (not_past most why (lines_of (within_limit bytes ++ more)) k first open'.lines ((open'.rest ++ more) ∷ []) open'.cuts whole open'.accepted less)
    at (inr (inr less)) =
        let all : length (first.before ++ first.line ∷ first.behind) ≡ length first.before + length (first.line ∷ first.behind) = length-append first.before (first.line ∷ first.behind) in
        let few : length (open'.lines ++ (open'.rest ++ more) ∷ []) ≡ length open'.lines + 1 = length-append open'.lines ((open'.rest ++ more) ∷ []) in
        let count : length (first.before ++ first.line ∷ first.behind) ≡ length (open'.lines ++ (open'.rest ++ more) ∷ []) = ap (λ (ls : List (List ℕ)). length ls) (sym first.split ∙ whole) in
        absurd (omega arith)

zeros : ℕ → List ℕ
zeros zero = []
zeros (suc n) = 48 ∷ zeros n

length-zeros : (n : ℕ) → length (zeros n) ≡ n
unfolding zeros
length-zeros zero = refl
length-zeros (suc n) = let rest = length-zeros n in omega arith

line_of_zeros : (n : ℕ) → lines_of (zeros n) ≡ zeros n ∷ []
unfolding zeros
line_of_zeros zero = refl
line_of_zeros (suc n) = ap (onto_first 48) (line_of_zeros n)

-- a line of more than 4,096 bytes is no cut line
too_many : (rest : List ℕ) (n order : ℕ) (value : ℤ) → 4_096 < n → IsCutLine (rest ++ zeros n) order value → ⊥
too_many rest n order value many is =
    let count : length (rest ++ zeros n) ≡ length rest + length (zeros n) = length-append rest (zeros n) in
    let zeros_count : length (zeros n) ≡ n = length-zeros n in
    omega (arith, is.short)

-- what is refused for this reason is a cut line, so the line that has begun isn't where too many bytes come
not_cut : (most : ℕ) (why : Refusal) (bytes : List ℕ) (k n : ℕ) → 4_096 < n → ((cuts : List CutLine) (line : List ℕ) → BreaksWithin most why cuts k line → HasNumbers line)
    → IsTooLongWithin most bytes → RefusesWithin most why bytes k → ⊥
not_cut most why bytes k n many says (long, open') refused =
    let found = open_refused most why bytes k long open' refused (zeros n) (line_of_zeros n) in
    let cut = says found.0 (open'.rest ++ zeros n) found.1 in
    too_many open'.rest n cut.0 cut.1 many cut.2

-- what is refused as bad becomes good with an end
not_bad : (most : ℕ) (bytes : List ℕ) (k : ℕ) → IsTooLongWithin most bytes → RefusesWithin most Bad bytes k → ⊥
not_bad most bytes k (long, open') refused = at (ends_well open'.rest open'.may.0 open'.may.2)
  where
    at : EndsWell open'.rest → ⊥
    at (inl good) = (open_refused most Bad bytes k long open' refused [] refl).1 (subst IsGood (sym (append-nil open'.rest)) good)
    at (inr (inl numbers)) = (open_refused most Bad bytes k long open' refused (32 ∷ 48 ∷ []) refl).1 (inr numbers)
    at (inr (inr numbers)) = (open_refused most Bad bytes k long open' refused (49 ∷ []) refl).1 (inr numbers)

too_long_not_refused : (most : ℕ) (why : Refusal) (bytes : List ℕ) (k : ℕ) → IsTooLongWithin most bytes → RefusesWithin most why bytes k → ⊥
too_long_not_refused most Bad bytes k = not_bad most bytes k
too_long_not_refused most Full bytes k = not_cut most Full bytes k 4_097 (omega arith) (λ cuts line told. (told.0, told.1, told.2))

-- ---- all stops

pub one_stop : (most : ℕ) (bytes : List ℕ) (one other : Stop) → BytesShowWithin most bytes one → BytesShowWithin most bytes other → one ≡ other
one_stop most bytes TooLong TooLong one two = refl
one_stop most bytes TooLong (Refused why k) one two = absurd (too_long_not_refused most why bytes k one two)
one_stop most bytes (Refused why k) TooLong one two = absurd (too_long_not_refused most why bytes k two one)
one_stop most bytes (Refused why k) (Refused other j) one two =
    let same = one_refused most why other (lines_of (within_limit bytes ++ [])) k j (one [] (λ short. refl)) (two [] (λ short. refl)) in
    ap₂ Refused same.0 same.1
one_stop most bytes TooLong Fault one two = absurd two
one_stop most bytes TooLong NoMemory one two = absurd two
one_stop most bytes (Refused why k) Fault one two = absurd two
one_stop most bytes (Refused why k) NoMemory one two = absurd two
one_stop most bytes Fault other one two = absurd one
one_stop most bytes NoMemory other one two = absurd one

pub no_stop : (most : ℕ) (bytes : List ℕ) (points : List Position) (stop : Stop) → ArePointsWithin most bytes points → ¬ BytesShowWithin most bytes stop
no_stop most bytes points TooLong (cuts, are, is) told = omega (arith, are.short, told.0)
no_stop most bytes points (Refused why k) (cuts, are, is) told = done_not_refused most why bytes cuts k are told
no_stop most bytes points Fault (cuts, are, is) told = told
no_stop most bytes points NoMemory (cuts, are, is) told = told
