-- No bytes have two stops, nor names and a stop, nor two lists of names.
use Rattle.std.proofs.Common.{◌≡◌, ◌≢◌, ℕ, ◌+◌, ◌^◌, ◌<◌, ◌≤◌, ◌⊎◌, inl, inr, List, [], ◌∷◌, ◌++◌, length, refl, sym, ap, ap₂, subst, ◌∙◌, arith, length-append}
use Rattle.std.{specs.Prelude.Contains, specs.List.AllPairs, proofs.lemmas.Bool.cases_order, proofs.lemmas.List.{take_all, get_or_append_left}}
use Rattle.std.proofs.{Math.Seq.get_or-append_seam, lemmas.Grind.common_steps}
use Rattle.line_text.{specs.Lines.lines_of, proofs.Parts.one_front}
use Rattle.line_pieces.{specs.Stops.within_limit, proofs.Fronts.{goes_past, one_split}, specs.declared.stop.Refusal.Refusal}
use Rattle.line_pieces.specs.declared.stop.{Refusal.TheVariants.{Bad, Full}, Stop.Stop, Stop.TheVariants.{Fault, TooLong, Refused, NoMemory}}
use Rattle.commit_lines.specs.{Lines.{AreNames, MayGo}, Reading.{AreAccepted, Breaks, IsFirstRefused, FrontRefuses, MayGoOn, Refuses, IsTooLong, AreNamesOf}}
use Rattle.commit_lines.{specs.Stops.BytesShow, proofs.Words.{skipped_not_name, one_name, good_may}, proofs.Fronts.first_later}

-- ---- the same lines have one list of names

pub one_list : (lines names other : List (List ℕ)) → AreNames lines names → AreNames lines other → names ≡ other
one_list [] names other one two = one ∙ sym two
one_list (line ∷ lines) names other (inl (skipped, one)) (inl (again, two)) = one_list lines names other one two
one_list (line ∷ lines) names other (inl (skipped, one)) (inr (name, rest, split, is, two)) = absurd (skipped_not_name line name skipped is)
one_list (line ∷ lines) names other (inr (name, rest, split, is, one)) (inl (skipped, two)) = absurd (skipped_not_name line name skipped is)
one_list (line ∷ lines) names other (inr (name, rest, split, is, one)) (inr (next, more, parts, its, two)) =
    split ∙ ap₂ (λ (n : List ℕ) (ns : List (List ℕ)). n ∷ ns) (one_name line name next is its) (one_list lines rest more one two) ∙ sym parts

-- ---- a refused line is not among accepted ones

-- the names of some lines are those of the first ones, and then those of the others
record Parts (front back names : List (List ℕ)) : Type 0 where
  one : List (List ℕ)
  two : List (List ℕ)
  joined : names ≡ one ++ two
  before : AreNames front one
  behind : AreNames back two

parts_of : (front back names : List (List ℕ)) → AreNames (front ++ back) names → Parts front back names
parts_of [] back names are = record { one = []; two = names; joined = refl; before = refl; behind = are }
parts_of (line ∷ front) back names (inl (skipped, are)) = grind (arith, common_steps, parts_of front back names are)
parts_of (line ∷ front) back names (inr (name, more, split, is, are)) =
    let rest = parts_of front back more are in
    record {
      one = name ∷ rest.one;
      two = rest.two;
      joined = split ∙ ap (λ (ns : List (List ℕ)). name ∷ ns) rest.joined;
      before = inr (name, rest.one, refl, is, rest.before);
      behind = rest.behind;
    }

-- a name behind others from which all are different is none of them
apart : (names : List (List ℕ)) (name : List ℕ) (more : List (List ℕ)) → AllPairs (λ (one other : List ℕ). one ≢ other) (names ++ name ∷ more) → ¬ Contains names name
apart names name more all (k, within, is) =
    let count : length (names ++ name ∷ more) ≡ length names + length (name ∷ more) = length-append names (name ∷ more) in
    all k (length names) name within (omega arith) (get_or_append_left names (name ∷ more) name k within ∙ is ∙ sym (get_or-append_seam names name more name))

not_among : (why : Refusal) (before : List (List ℕ)) (line : List ℕ) (behind names all : List (List ℕ))
    → AreNames before names → AreAccepted (before ++ line ∷ behind) all → Breaks why names line → ⊥
not_among why before line behind names all are accepted refused = at parts.behind why refused
  where
    parts : Parts before (line ∷ behind) all
    parts = parts_of before (line ∷ behind) all accepted.read

    same : parts.one ≡ names
    same = one_list before parts.one names parts.before are

    at : AreNames (line ∷ behind) parts.two → (why : Refusal) → Breaks why names line → ⊥
    at (inl (skipped, more)) Bad bad = bad (inl skipped)
    at (inl (skipped, more)) Full (many, (name, is, fresh)) = skipped_not_name line name skipped is
    at (inr (own, rest, split, says, more)) Bad bad =
        let whole : all ≡ names ++ own ∷ rest = parts.joined ∙ ap₂ (λ (xs ys : List (List ℕ)). xs ++ ys) same split in
        bad (inr (own, says, apart names own rest (subst (AllPairs (λ (one other : List ℕ). one ≢ other)) whole accepted.different)))
    at (inr (own, rest, split, says, more)) Full (many, refused) =
        let whole : all ≡ names ++ own ∷ rest = parts.joined ∙ ap₂ (λ (xs ys : List (List ℕ)). xs ++ ys) same split in
        let count : length all ≡ length names + length (own ∷ rest) = ap (λ (ns : List (List ℕ)). length ns) whole ∙ length-append names (own ∷ rest) in
        omega (arith, many, accepted.few)

-- ---- the first refused line is one line

-- a line is refused for one reason
one_reason : (why other : Refusal) (names : List (List ℕ)) (line : List ℕ) → Breaks why names line → Breaks other names line → why ≡ other
one_reason why other names line one two = grind (arith, common_steps)

-- no lines reach past the first refused one and are accepted
not_past : (why : Refusal) (lines : List (List ℕ)) (k : ℕ) (first : IsFirstRefused why lines k) (two rest names : List (List ℕ))
    → lines ≡ two ++ rest → AreAccepted two names → length first.before < length two → ⊥
not_past why lines k first two rest names split are less = grind (arith, common_steps, goes_past, not_among)

-- the first refused line is one line, refused for one reason
one_refused : (why other : Refusal) (lines : List (List ℕ)) (k j : ℕ) → IsFirstRefused why lines k → IsFirstRefused other lines j → (why ≡ other) × (k ≡ j)
one_refused why other lines k j one two = at (cases_order (length one.before) (length two.before))
  where
    at : (length one.before ≡ length two.before) ⊎ ((length one.before < length two.before) ⊎ (length two.before < length one.before)) → (why ≡ other) × (k ≡ j)
    at (inl count) =
        let split = one_split one.before two.before one.line two.line one.behind two.behind (sym one.split ∙ two.split) count in
        let names : two.names ≡ one.names = grind (arith, common_steps, one_list, split.0) in
        let again : Breaks other one.names one.line = grind (arith, common_steps) in
        (one_reason why other one.names one.line one.refused again, one.number ∙ ap (λ n. n + 1) count ∙ sym two.number)
    at (inr (inl less)) = absurd (not_past why lines k one two.before (two.line ∷ two.behind) two.names two.split two.accepted less)
    at (inr (inr less)) = absurd (not_past other lines j two one.before (one.line ∷ one.behind) one.names one.split one.accepted less)

-- accepted lines have no refused one
not_accepted : (why : Refusal) (lines : List (List ℕ)) (k : ℕ) (names : List (List ℕ)) → IsFirstRefused why lines k → AreAccepted lines names → ⊥
not_accepted why lines k names first accepted = grind (arith, common_steps, not_among)

-- ---- what the first bytes refuse

-- where they are all, too
front_first : (why : Refusal) (bytes : List ℕ) (k : ℕ) → FrontRefuses why bytes k → IsFirstRefused why (lines_of bytes) k
front_first why bytes k (inl (lines, rest, split, first)) = subst (λ ls. IsFirstRefused why ls k) (sym split) (first_later why lines (rest ∷ []) k first)
front_first why bytes k (inr (lines, rest, names, begun, is, number, never)) =
    subst (λ (w : Refusal). IsFirstRefused w (lines_of bytes) k) (sym is) (record {
      before = lines;
      line = rest;
      behind = [];
      names = names;
      split = begun.split;
      number = number;
      accepted = begun.accepted;
      refused = λ good. never (good_may names rest good);
    })

-- they don't go on then
front_not_open : (why : Refusal) (bytes : List ℕ) (k : ℕ) → FrontRefuses why bytes k → MayGoOn bytes → ⊥
front_not_open why bytes k (inl (lines, rest, split, first)) (whole, last, names, begun, may) =
    let same = one_front lines whole rest last (sym split ∙ begun.split) in
    not_accepted why lines k names first (subst (λ ls. AreAccepted ls names) (sym same.0) begun.accepted)
front_not_open why bytes k (inr (lines, rest, names, began, is, number, never)) (whole, last, others, begun, may) =
    let same = one_front lines whole rest last (sym began.split ∙ begun.split) in
    let list : others ≡ names = one_list lines others names (subst (λ ls. AreNames ls others) (sym same.0) begun.accepted.read) began.accepted.read in
    never (subst (λ (ns : List (List ℕ)). MayGo ns rest) list (subst (MayGo others) (sym same.1) may))

within : (bytes : List ℕ) → length bytes ≤ 2 ^ 30 → within_limit bytes ≡ bytes
within bytes short = take_all (2 ^ 30) bytes short

refused_first : (why : Refusal) (bytes : List ℕ) (k : ℕ) → Refuses why bytes k → IsFirstRefused why (lines_of (within_limit bytes)) k
refused_first why bytes k (inl front) = front_first why (within_limit bytes) k front
refused_first why bytes k (inr (short, first)) = subst (λ bs. IsFirstRefused why (lines_of bs) k) (sym (within bytes short)) first

too_long_not_refused : (why : Refusal) (bytes : List ℕ) (k : ℕ) → IsTooLong bytes → Refuses why bytes k → ⊥
too_long_not_refused why bytes k (long, may) (inl front) = front_not_open why (within_limit bytes) k front may
too_long_not_refused why bytes k (long, may) (inr (short, first)) = omega arith

-- ---- all stops

pub one_stop : (bytes : List ℕ) (one other : Stop) → BytesShow bytes one → BytesShow bytes other → one ≡ other
one_stop bytes TooLong TooLong one two = refl
one_stop bytes TooLong (Refused why k) one two = absurd (too_long_not_refused why bytes k one two)
one_stop bytes (Refused why k) TooLong one two = absurd (too_long_not_refused why bytes k two one)
one_stop bytes (Refused why k) (Refused other j) one two =
    let same = one_refused why other (lines_of (within_limit bytes)) k j (refused_first why bytes k one) (refused_first other bytes j two) in
    ap₂ Refused same.0 same.1
one_stop bytes TooLong Fault one two = absurd two
one_stop bytes TooLong NoMemory one two = absurd two
one_stop bytes (Refused why k) Fault one two = absurd two
one_stop bytes (Refused why k) NoMemory one two = absurd two
one_stop bytes Fault other one two = absurd one
one_stop bytes NoMemory other one two = absurd one

pub no_stop : (bytes : List ℕ) (names : List (List ℕ)) (stop : Stop) → AreNamesOf bytes names → ¬ BytesShow bytes stop
no_stop bytes names TooLong are told = omega (arith, are.short, told.0)
no_stop bytes names (Refused why k) are told =
    not_accepted why (lines_of (within_limit bytes)) k names (refused_first why bytes k told)
    (subst (λ bs. AreAccepted (lines_of bs) names) (sym (within bytes are.short)) are.accepted)
no_stop bytes names Fault are told = told
no_stop bytes names NoMemory are told = told

pub one_list_of : (bytes : List ℕ) (names other : List (List ℕ)) → AreNamesOf bytes names → AreNamesOf bytes other → names ≡ other
one_list_of bytes names other one two = one_list (lines_of bytes) names other one.accepted.read two.accepted.read
