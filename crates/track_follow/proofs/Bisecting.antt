-- The jobs of a history by number, and what a job takes.
use Rattle.std.proofs.Common.{◌≡◌, ℕ, zero, suc, ◌+◌, ◌-◌, ◌≤◌, cond, List, [], ◌∷◌, length, set, refl, sym, ap, subst, ◌∙◌, Option, Some, None, arith, eq-eqb}
use Rattle.std.specs.{Prelude.slice_get, List.cons_option}
use Rattle.bisect_core.specs.{Bisections.{Bisection, answer_to, asked_by}, Turns.tested, declared.outcome.Outcome.Outcome}
use Rattle.bisect_core.specs.declared.outcome.Answered.TheVariants as answered
use Rattle.bisect_core.specs.declared.outcome.Outcome.TheVariants.{Asks, Found, Undecided, Faulted}
use Rattle.history_model.specs.{declared.entries.Entry.Entry, declared.events.JobEvent.TheVariants.Answer, Entries.chosen_from}
use Rattle.history_model.specs.declared.entries.Entry.TheVariants as entry
use Rattle.history_model.specs.Jobs.{Begun, begins, begun, said, asked, jobs, job_in, place_asked, standing_from}

put-in : (js : List Bisection) (k : ℕ) (before after : Bisection) → slice_get js k ≡ Some before → slice_get (set js k after) k ≡ Some after
put-in [] k before after there = absurd (none k there)
  where
    none : (k : ℕ) → slice_get {X = Bisection} [] k ≡ Some before → ⊥
    none k is = cc
put-in (j ∷ js) zero before after there = refl
put-in (j ∷ js) (suc k) before after there = put-in js k before after there

-- the one that takes the place of a job
pub job-put : (js : List Bisection) (number : ℕ) (before after : Bisection) → job_in number js ≡ Some before → job_in number (set js (number - 1) after) ≡ Some after
job-put js zero before after there = absurd (cc)
job-put js (suc k) before after there =
    let same : suc k - 1 ≡ k = omega arith in
    subst (λ (n : ℕ). slice_get (set js n after) k ≡ Some after) (sym same) (put-in js k before after there)

one-more : {A : Type 0} (o : Option A) (xs : List A) (n : ℕ) → length xs ≤ n → length (cons_option o xs) ≤ suc n
one-more None xs n few = omega (arith, few)
one-more (Some x) xs n few = omega (arith, few)

few-chosen : {A : Type 0} (choice : ℕ → Entry → Option A) (h : List Entry) (step : ℕ) → length (chosen_from step choice h) ≤ length h
few-chosen choice [] step = omega arith
few-chosen choice (e ∷ h) step = one-more (choice step e) (chosen_from (step + 1) choice h) (length h) (few-chosen choice h (step + 1))

one-each : (h : List Entry) (k : ℕ) (bs : List Begun) → length (standing_from h k bs) ≡ length bs
one-each h k [] = refl
one-each h k (b ∷ bs) = ap suc (one-each h (k + 1) bs)

-- each job takes an entry
pub few-jobs : (h : List Entry) → length (jobs h) ≤ length h
few-jobs h =
    let few : length (begins h) ≤ length h = few-chosen begun h 1 in
    let same = one-each h 1 (begins h) in
    omega (arith, few, same)

pub takes : (o : Outcome) (place : ℕ) → asked_by o ≡ Some place → answer_to o place ≡ answered.Ok
takes (Asks asked) place is =
    let same : asked ≡ place = cc in
    ap (λ b. cond b answered.Ok (answered.NotAsked asked)) (eq-eqb asked place same)
takes (Found lo hi) place is = absurd (cc)
takes (Undecided at status) place is = absurd (cc)
takes (Faulted at) place is = absurd (cc)

-- a job takes what is said of the place that it asks
pub takes-answer : (h : List Entry) (number place : ℕ) (b : Bisection) → job_in number (jobs h) ≡ Some b → asked number h ≡ Some place → answer_to b.outcome place ≡ answered.Ok
takes-answer h number place b there asks = takes b.outcome place (ap place_asked (sym there) ∙ asks)

-- and the entry that says it is a turn of it
pub is-said : (number place status step : ℕ) → said number step (entry.Job (Answer number place status)) ≡ Some (tested place status)
is-said number place status step = ap (λ b. cond b (Some (tested place status)) None) (eq-eqb number number refl)
