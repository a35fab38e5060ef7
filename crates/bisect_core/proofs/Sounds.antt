-- What an answer makes of the record of a bisection, and that it stays sound.
use Rattle.std.proofs.Common.{◌≡◌, inl, inr, ℕ, ◌+◌, ◌-◌, ◌^◌, ◌<◌, ◌≤◌, true, false, List, [], ◌∷◌, ◌++◌, length, refl, sym, ap, ◌∙◌, subst, arith, Option, Some, None}
use Rattle.std.{specs.Prelude.slice_index, specs.List.Sorted.IsStrictlyIncreasing, proofs.Common.{mul-le-mul_right, suc, zero}, proofs.Math.Nat.pow-suc}
use Rattle.bisect_core.specs.declared.{outcome.Outcome.Outcome, outcome.Outcome.TheVariants.{Asks, Undecided, Faulted}, progress.Progress.Progress}
use Rattle.bisect_core.specs.{declared.progress.Verdict.TheVariants.{Good, Bad, Untestable}, Turns.{Turn, tested, given_up, good_places, bad_places, ending}}
use Rattle.bisect_core.specs.Bisections.{Bisection, standing, bisection, between, is_open, low_after, high_after, questions_after}
use Rattle.bisect_core.{specs.Bounds.IsWithinBound, specs.Sound.{IsSound, IsListed}, proofs.Lists.rises_to, proofs.Halving.{up, down}}
use Rattle.bisect_core.specs.Verdicts.{verdict_of, after_verdict, after_status, after_good, after_bad, after_untestable, after_giving_up, seen, kept_by}
use Rattle.std.proofs.lemmas.{List.append-nil, Grind.common_steps}
use Rattle.bisect_core.proofs.Turned.{Says, says, IsHalfWay, half_way, low_good, low_same, high_bad, high_same, questions_good, questions_bad, questions_same, good_push, bad_push, ending_push}

-- ---- sound

-- where an answer to what is asked may lead
pub record IsAsked (commits : Option (List ℕ)) (p : Progress) (place commit : ℕ) : Type 0 where
  pub sound : IsSound (seen commits p)
  pub asks : p.outcome ≡ Asks place
  pub is : (list : List ℕ) → commits ≡ Some list → commit ≡ slice_index list place

pub is_asked : (commits : Option (List ℕ)) (p : Progress) (place commit at : ℕ) (now : Bisection) → IsSound (seen commits p) → seen commits p ≡ now
    → p.outcome ≡ Asks at → at ≡ place → ((list : List ℕ) → now.commits ≡ Some list → commit ≡ slice_index list place) → IsAsked commits p place commit
is_asked commits p place commit at now sound is asks same reads = grind (arith, common_steps)

pub asked_half : (commits : Option (List ℕ)) (p : Progress) (place commit : ℕ) → IsAsked commits p place commit → IsHalfWay p.low p.high place
asked_half commits p place commit a = grind (arith, common_steps)

listed : (commits : Option (List ℕ)) (p : Progress) (place commit : ℕ) → IsAsked commits p place commit → (list : List ℕ) × IsListed (seen commits p) list
listed commits p place commit a = grind (arith, common_steps)

below_pow : (n : ℕ) → n < 2 ^ n
below_pow zero = omega arith
below_pow (suc n) = omega (arith, pow-suc 2 n, below_pow n)

-- one question more is still a number of 64 bits
pub questions_fit : (n low high q : ℕ) → IsWithinBound n low high q → low + 1 < high → n < 2 ^ 64 → q + 1 < 2 ^ 64
questions_fit n low high q b more small = grind (arith, common_steps, mul-le-mul_right, below_pow)

-- what is known there: the bounds apart, the commits, and that the place is half-way between the bounds
record There (commits : Option (List ℕ)) (p : Progress) (place commit : ℕ) : Type 0 where
  half : IsHalfWay p.low p.high place
  more : p.low + 1 < p.high
  list : List ℕ
  listed : IsListed (seen commits p) list
  is : commit ≡ slice_index list place

there : (commits : Option (List ℕ)) (p : Progress) (place commit : ℕ) → IsAsked commits p place commit → There commits p place commit
there commits p place commit a = grind (arith, common_steps)

sound_good : (commits : Option (List ℕ)) (p : Progress) (place commit : ℕ) → IsAsked commits p place commit
    → IsSound (seen (kept_by commits (after_good p place commit).outcome) (after_good p place commit))
sound_good commits p place commit a =
    let t = there commits p place commit a in
    let below : slice_index t.list place < slice_index t.list p.high = rises_to t.list place p.high t.listed.rising (omega (arith, t.half.half_way)) (omega (arith, t.listed.count, a.sound.bound.inside)) in
    record {
      bound = rw t.half.half_way (up p.range p.low p.high p.questions a.sound.bound t.more);
      small = a.sound.small;
      ends = omega (arith, t.is, below, t.listed.high);
      asks = λ (opened : is_open (between place p.high) ≡ true). refl;
      listed = λ (opened : is_open (between place p.high) ≡ true). (
        t.list,
        record {
          list = rw opened t.listed.list;
          rising = t.listed.rising;
          count = t.listed.count;
          low = t.is;
          high = t.listed.high;
        },
      );
    }

sound_bad : (commits : Option (List ℕ)) (p : Progress) (place commit : ℕ) → IsAsked commits p place commit
    → IsSound (seen (kept_by commits (after_bad p place commit).outcome) (after_bad p place commit))
sound_bad commits p place commit a =
    let t = there commits p place commit a in
    let above : slice_index t.list p.low < slice_index t.list place = rises_to t.list p.low place t.listed.rising (omega (arith, t.half.half_way)) (omega (arith, t.half.half_way, t.listed.count, a.sound.bound.inside)) in
    record {
      bound = rw t.half.half_way (down p.range p.low p.high p.questions a.sound.bound t.more);
      small = a.sound.small;
      ends = omega (arith, t.is, above, t.listed.low);
      asks = λ (opened : is_open (between p.low place) ≡ true). refl;
      listed = λ (opened : is_open (between p.low place) ≡ true). (
        t.list,
        record {
          list = rw opened t.listed.list;
          rising = t.listed.rising;
          count = t.listed.count;
          low = t.listed.low;
          high = t.is;
        },
      );
    }

good_status : (p : Progress) (place status commit : ℕ) → Says status true false false → after_status p place status commit ≡ after_good p place commit
good_status p place status commit s = let e : verdict_of status ≡ Good = rw s.good refl in ap (after_verdict p place status commit) e

bad_status : (p : Progress) (place status commit : ℕ) → Says status false true false → after_status p place status commit ≡ after_bad p place commit
bad_status p place status commit s = let e : verdict_of status ≡ Bad = rw (s.good, s.untestable) refl in ap (after_verdict p place status commit) e

untestable_status : (p : Progress) (place status commit : ℕ) → Says status false false true → after_status p place status commit ≡ after_untestable p place status commit
untestable_status p place status commit s = let e : verdict_of status ≡ Untestable = rw (s.good, s.untestable) refl in ap (after_verdict p place status commit) e

sound_untestable : (commits : Option (List ℕ)) (p : Progress) (place status commit : ℕ) → IsSound (seen commits p)
    → IsSound (seen (kept_by commits (Undecided place status)) (after_untestable p place status commit))
sound_untestable commits p place status commit sound = grind (arith, common_steps)

pub sound_status : (commits : Option (List ℕ)) (p : Progress) (place status commit : ℕ) → IsAsked commits p place commit
    → IsSound (seen (kept_by commits (after_status p place status commit).outcome) (after_status p place status commit))
sound_status commits p place status commit a = elim (says status) [
  | inl s ↦ subst (λ (r : Progress). IsSound (seen (kept_by commits r.outcome) r)) (sym (good_status p place status commit s)) (sound_good commits p place commit a)
  | inr (inl s) ↦ subst (λ (r : Progress). IsSound (seen (kept_by commits r.outcome) r)) (sym (bad_status p place status commit s)) (sound_bad commits p place commit a)
  | inr (inr s) ↦ subst (λ (r : Progress). IsSound (seen (kept_by commits r.outcome) r)) (sym (untestable_status p place status commit s)) (sound_untestable commits p place status commit a.sound)
]

-- a list of two or more commits, before any answer
pub sound_begun : (list : List ℕ) → IsStrictlyIncreasing list → 2 ≤ length list → length list - 1 < 2 ^ 64
    → IsSound (standing list 0 (length list - 1) 0 None)
sound_begun list rising some small = grind (arith, common_steps, rises_to, length, listed)

-- ---- recorded

-- where an answer leads, as functions of where the bisection stood
abbrev good_of : ℕ → ℕ → Bisection → Bisection
good_of place commit b = record {
  commits = kept_by b.commits (between place b.high);
  range = b.range;
  low = place;
  high = b.high;
  questions = b.questions + 1;
  outcome = between place b.high;
  low_commit = commit;
  high_commit = b.high_commit;
  end_commit = b.end_commit;
}

abbrev bad_of : ℕ → ℕ → Bisection → Bisection
bad_of place commit b = record {
  commits = kept_by b.commits (between b.low place);
  range = b.range;
  low = b.low;
  high = place;
  questions = b.questions + 1;
  outcome = between b.low place;
  low_commit = b.low_commit;
  high_commit = commit;
  end_commit = b.end_commit;
}

abbrev end_of : Outcome → ℕ → Bisection → Bisection
end_of outcome commit b = record {
  commits = kept_by b.commits outcome;
  range = b.range;
  low = b.low;
  high = b.high;
  questions = b.questions;
  outcome = outcome;
  low_commit = b.low_commit;
  high_commit = b.high_commit;
  end_commit = Some commit;
}

good_stands : (list : List ℕ) (low high q : ℕ) (end : Option Turn) (place commit : ℕ) → end ≡ None → between low high ≡ Asks place → commit ≡ slice_index list place
    → good_of place commit (standing list low high q end) ≡ standing list place high (q + 1) None
good_stands list low high q end place commit none asks is = rw (none, asks, is) refl

bad_stands : (list : List ℕ) (low high q : ℕ) (end : Option Turn) (place commit : ℕ) → end ≡ None → between low high ≡ Asks place → commit ≡ slice_index list place
    → bad_of place commit (standing list low high q end) ≡ standing list low place (q + 1) None
bad_stands list low high q end place commit none asks is = rw (none, asks, is) refl

tested_stands : (list : List ℕ) (low high q : ℕ) (end : Option Turn) (place status commit : ℕ) → commit ≡ slice_index list place
    → end_of (Undecided place status) commit (standing list low high q end) ≡ standing list low high q (Some (tested place status))
tested_stands list low high q end place status commit is = rw is refl

given_up_stands : (list : List ℕ) (low high q : ℕ) (end : Option Turn) (place commit : ℕ) → commit ≡ slice_index list place
    → end_of (Faulted place) commit (standing list low high q end) ≡ standing list low high q (Some (given_up place))
given_up_stands list low high q end place commit is = rw is refl

-- what is known where a place is asked of a bisection of a list after some turns
pub record AsksOf (list : List ℕ) (turns : List Turn) (place : ℕ) : Type 0 where
  pub none : ending turns ≡ None
  pub asks : between (low_after turns) (high_after (length list - 1) turns) ≡ Asks place
  pub above : low_after turns ≤ place
  pub below : low_after turns < high_after (length list - 1) turns → place ≤ high_after (length list - 1) turns

pub asks_of : (list : List ℕ) (turns : List Turn) (place : ℕ) → (bisection list turns).outcome ≡ Asks place → AsksOf list turns place
asks_of list turns place h = grind (arith, common_steps)

recorded_good : (commits : Option (List ℕ)) (p : Progress) (place status commit : ℕ) (list : List ℕ) (turns : List Turn) → seen commits p ≡ bisection list turns
    → AsksOf list turns place → commit ≡ slice_index list place → Says status true false false
    → seen (kept_by commits (after_good p place commit).outcome) (after_good p place commit) ≡ bisection list (turns ++ tested place status ∷ [])
recorded_good commits p place status commit list turns h a is s =
    let low : low_after (turns ++ tested place status ∷ []) ≡ place = low_good turns place status s.good a.above in
    let high : high_after (length list - 1) (turns ++ tested place status ∷ []) ≡ high_after (length list - 1) turns = high_same (length list - 1) turns place status s.bad in
    let asked : questions_after (turns ++ tested place status ∷ []) ≡ questions_after turns + 1 = questions_good turns place status s.good s.bad in
    let on : ending (turns ++ tested place status ∷ []) ≡ None = ending_push turns (tested place status) a.none ∙ rw s.untestable refl in
    let stands = good_stands list (low_after turns) (high_after (length list - 1) turns) (questions_after turns) (ending turns) place commit a.none a.asks is in
    rw (low, high, asked, on) (ap (good_of place commit) h ∙ stands)

recorded_bad : (commits : Option (List ℕ)) (p : Progress) (place status commit : ℕ) (list : List ℕ) (turns : List Turn) → seen commits p ≡ bisection list turns
    → AsksOf list turns place → commit ≡ slice_index list place → Says status false true false → place ≤ high_after (length list - 1) turns
    → seen (kept_by commits (after_bad p place commit).outcome) (after_bad p place commit) ≡ bisection list (turns ++ tested place status ∷ [])
recorded_bad commits p place status commit list turns h a is s below =
    let low : low_after (turns ++ tested place status ∷ []) ≡ low_after turns = low_same turns place status s.good in
    let high : high_after (length list - 1) (turns ++ tested place status ∷ []) ≡ place = high_bad (length list - 1) turns place status s.bad below in
    let asked : questions_after (turns ++ tested place status ∷ []) ≡ questions_after turns + 1 = questions_bad turns place status s.good s.bad in
    let on : ending (turns ++ tested place status ∷ []) ≡ None = ending_push turns (tested place status) a.none ∙ rw s.untestable refl in
    let stands = bad_stands list (low_after turns) (high_after (length list - 1) turns) (questions_after turns) (ending turns) place commit a.none a.asks is in
    rw (low, high, asked, on) (ap (bad_of place commit) h ∙ stands)

recorded_untestable : (commits : Option (List ℕ)) (p : Progress) (place status commit : ℕ) (list : List ℕ) (turns : List Turn) → seen commits p ≡ bisection list turns
    → AsksOf list turns place → commit ≡ slice_index list place → Says status false false true
    → seen (kept_by commits (Undecided place status)) (after_untestable p place status commit) ≡ bisection list (turns ++ tested place status ∷ [])
recorded_untestable commits p place status commit list turns h a is s =
    let low : low_after (turns ++ tested place status ∷ []) ≡ low_after turns = low_same turns place status s.good in
    let high : high_after (length list - 1) (turns ++ tested place status ∷ []) ≡ high_after (length list - 1) turns = high_same (length list - 1) turns place status s.bad in
    let asked : questions_after (turns ++ tested place status ∷ []) ≡ questions_after turns = questions_same turns place status s.good s.bad in
    let on : ending (turns ++ tested place status ∷ []) ≡ Some (tested place status) = ending_push turns (tested place status) a.none ∙ rw s.untestable refl in
    let stands = tested_stands list (low_after turns) (high_after (length list - 1) turns) (questions_after turns) (ending turns) place status commit is in
    rw (low, high, asked, on) (ap (end_of (Undecided place status) commit) h ∙ stands)

pub recorded_giving_up : (commits : Option (List ℕ)) (p : Progress) (place commit : ℕ) (list : List ℕ) (turns : List Turn) → seen commits p ≡ bisection list turns
    → AsksOf list turns place → commit ≡ slice_index list place
    → seen (kept_by commits (Faulted place)) (after_giving_up p place commit) ≡ bisection list (turns ++ given_up place ∷ [])
recorded_giving_up commits p place commit list turns h a is =
    let good : good_places (turns ++ given_up place ∷ []) ≡ good_places turns = good_push turns (given_up place) ∙ append-nil (good_places turns) in
    let bad : bad_places (turns ++ given_up place ∷ []) ≡ bad_places turns = bad_push turns (given_up place) ∙ append-nil (bad_places turns) in
    let on : ending (turns ++ given_up place ∷ []) ≡ Some (given_up place) = ending_push turns (given_up place) a.none in
    let stands = given_up_stands list (low_after turns) (high_after (length list - 1) turns) (questions_after turns) (ending turns) place commit is in
    rw (good, bad, on) (ap (end_of (Faulted place) commit) h ∙ stands)

-- the commit that is read of the list is that of the bisection
pub commit_of : (commits : Option (List ℕ)) (p : Progress) (place commit : ℕ) (list : List ℕ) (turns : List Turn) → seen commits p ≡ bisection list turns
    → AsksOf list turns place → ((l : List ℕ) → commits ≡ Some l → commit ≡ slice_index l place) → commit ≡ slice_index list place
commit_of commits p place commit list turns h a is = grind (arith, common_steps)

pub recorded_status : (commits : Option (List ℕ)) (p : Progress) (place status commit : ℕ) (list : List ℕ) (turns : List Turn) → seen commits p ≡ bisection list turns
    → IsAsked commits p place commit
    → seen (kept_by commits (after_status p place status commit).outcome) (after_status p place status commit) ≡ bisection list (turns ++ tested place status ∷ [])
recorded_status commits p place status commit list turns h asked =
    let a : AsksOf list turns place = asks_of list turns place (sym (ap (λ (b : Bisection). b.outcome) h) ∙ asked.asks) in
    let is : commit ≡ slice_index list place = commit_of commits p place commit list turns h a asked.is in
    let low : p.low ≡ low_after turns = ap (λ (b : Bisection). b.low) h in
    let high : p.high ≡ high_after (length list - 1) turns = ap (λ (b : Bisection). b.high) h in
    let apart : p.low < p.high = asked.sound.bound.apart in
    elim (says status) [
      | inl s ↦ ap (λ (r : Progress). seen (kept_by commits r.outcome) r) (good_status p place status commit s) ∙ recorded_good commits p place status commit list turns h a is s
      | inr (inl s) ↦ ap (λ (r : Progress). seen (kept_by commits r.outcome) r) (bad_status p place status commit s) ∙ recorded_bad commits p place status commit list turns h a is s (a.below (omega arith))
      | inr (inr s) ↦ ap (λ (r : Progress). seen (kept_by commits r.outcome) r) (untestable_status p place status commit s) ∙ recorded_untestable commits p place status commit list turns h a is s
    ]

pub recorded_given_up : (commits : Option (List ℕ)) (p : Progress) (place commit : ℕ) (list : List ℕ) (turns : List Turn) → seen commits p ≡ bisection list turns
    → IsAsked commits p place commit
    → seen (kept_by commits (Faulted place)) (after_giving_up p place commit) ≡ bisection list (turns ++ given_up place ∷ [])
recorded_given_up commits p place commit list turns h asked =
    let a : AsksOf list turns place = asks_of list turns place (sym (ap (λ (b : Bisection). b.outcome) h) ∙ asked.asks) in
    recorded_giving_up commits p place commit list turns h a (commit_of commits p place commit list turns h a asked.is)
