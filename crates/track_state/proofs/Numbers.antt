-- The first number of the open jobs that passes a test.
use Rattle.std.proofs.Common.{◌≡◌, ℕ, zero, suc, ◌+◌, ◌≤◌, Bool, true, false, cond, not, List, [], ◌∷◌, refl, sym, ap, subst, ◌∙◌, inl, inr, Option, Some, None, arith}
use Rattle.std.{specs.Prelude.{IsSome, find, slice_get}, proofs.lemmas.Bool.cases_Bool, proofs.lemmas.Grind.common_steps}
use Rattle.bisect_core.specs.{Bisections.{Bisection, asked_by, is_open}, declared.outcome.Outcome.Outcome}
use Rattle.follow_index.specs.Numbered.{open_from, open_numbers}
use Rattle.history_model.specs.{declared.entries.Entry.Entry, Jobs.{asked, is_under_way, job_in, jobs, place_asked}}
use Rattle.track_state.specs.{Questions.{IsFirstQuestion, IsQuestion, NoneIsAsked, is_claimed}, declared.questions.Question.Question}

-- the job behind an item that was found, and none before it
pub record IsFirstOpen (p : ℕ → Bool) (k : ℕ) (js : List Bisection) (n : ℕ) : Type 0 where
  pub place : ℕ
  pub number : n ≡ k + place
  pub job : Bisection
  pub there : slice_get js place ≡ Some job
  pub under_way : is_under_way job ≡ true
  pub passes : p n ≡ true
  pub first : (i : ℕ) (b : Bisection) → slice_get js i ≡ Some b → is_under_way b ≡ true → p (k + i) ≡ true → place ≤ i

later : (p : ℕ → Bool) (k : ℕ) (x : Bisection) (js : List Bisection) (n : ℕ) → IsFirstOpen p (k + 1) js n → (is_under_way x ≡ true → p k ≡ true → ⊥) → IsFirstOpen p k (x ∷ js) n
later p k x js n is never = record {
  place = suc is.place;
  number = let number = is.number in omega (arith, number);
  job = is.job;
  there = is.there;
  under_way = is.under_way;
  passes = is.passes;
  first = λ i b. by i b;
}
  where
    by : (i : ℕ) (b : Bisection) → slice_get (x ∷ js) i ≡ Some b → is_under_way b ≡ true → p (k + i) ≡ true → suc is.place ≤ i
    by zero b there open_b passes =
        let same : x ≡ b = cc in
        let at : k + 0 ≡ k = omega arith in
        absurd (never (ap is_under_way same ∙ open_b) (sym (ap p at) ∙ passes))
    by (suc i) b there open_b passes =
        let at : k + 1 + i ≡ k + suc i = omega arith in
        let le = is.first i b there open_b (ap p at ∙ passes) in
        omega (arith, le)

pub found : (p : ℕ → Bool) (k : ℕ) (js : List Bisection) (n : ℕ) → find p (open_from k js) ≡ Some n → IsFirstOpen p k js n
found p k [] n is = absurd (cc)
found p k (x ∷ js) n is = elim (cases_Bool (is_under_way x)) [
  | inl open_x ↦
      let at : find p (k ∷ open_from (k + 1) js) ≡ Some n = sym (ap (λ b. find p (cond b (k ∷ open_from (k + 1) js) (open_from (k + 1) js))) open_x) ∙ is in
      elim (cases_Bool (p k)) [
        | inl hit ↦
            let number : k ≡ n = cc in
            record {
              place = 0;
              number = omega (arith, number);
              job = x;
              there = refl;
              under_way = open_x;
              passes = ap p (sym number) ∙ hit;
              first = λ i b there open_b passes. omega arith;
            }
        | inr miss ↦
            later p k x js n (found p (k + 1) js n (sym (ap (λ b. cond b (Some k) (find p (open_from (k + 1) js))) miss) ∙ at))
            (λ open_k passes. let never : true ≡ false = sym passes ∙ miss in cc)
      ]
  | inr shut ↦
      later p k x js n (found p (k + 1) js n (sym (ap (λ b. find p (cond b (k ∷ open_from (k + 1) js) (open_from (k + 1) js))) shut) ∙ is))
      (λ open_k passes. let never : true ≡ false = sym open_k ∙ shut in cc)
]

pub missed : (p : ℕ → Bool) (k : ℕ) (js : List Bisection) → find p (open_from k js) ≡ None → (i : ℕ) (b : Bisection) → slice_get js i ≡ Some b → is_under_way b ≡ true → p (k + i) ≡ false
missed p k [] none i b there open_b = grind (arith, common_steps)
missed p k (x ∷ js) none i b there open_b = elim (cases_Bool (is_under_way x)) [
  | inl open_x ↦
      let at : find p (k ∷ open_from (k + 1) js) ≡ None = sym (ap (λ b. find p (cond b (k ∷ open_from (k + 1) js) (open_from (k + 1) js))) open_x) ∙ none in
      elim (cases_Bool (p k)) [
        | inl hit ↦ absurd (let never : Some k ≡ None = sym (ap (λ b. cond b (Some k) (find p (open_from (k + 1) js))) hit) ∙ at in cc)
        | inr miss ↦ first i there miss (missed p (k + 1) js (sym (ap (λ b. cond b (Some k) (find p (open_from (k + 1) js))) miss) ∙ at))
      ]
  | inr shut ↦
      shut-first i there shut (missed p (k + 1) js (sym (ap (λ b. find p (cond b (k ∷ open_from (k + 1) js) (open_from (k + 1) js))) shut) ∙ none))
]
  where
    first : (i : ℕ) → slice_get (x ∷ js) i ≡ Some b → p k ≡ false → ((i : ℕ) (b : Bisection) → slice_get js i ≡ Some b → is_under_way b ≡ true → p (k + 1 + i) ≡ false) → p (k + i) ≡ false
    first zero there miss rest = let at : k + 0 ≡ k = omega arith in ap p at ∙ miss
    first (suc i) there miss rest = let at : k + suc i ≡ k + 1 + i = omega arith in ap p at ∙ rest i b there open_b

    shut-first : (i : ℕ) → slice_get (x ∷ js) i ≡ Some b → is_under_way x ≡ false → ((i : ℕ) (b : Bisection) → slice_get js i ≡ Some b → is_under_way b ≡ true → p (k + 1 + i) ≡ false) → p (k + i) ≡ false
    shut-first zero there shut rest =
        let same : x ≡ b = cc in
        absurd (let never : true ≡ false = sym open_b ∙ sym (ap is_under_way same) ∙ shut in cc)
    shut-first (suc i) there shut rest = let at : k + suc i ≡ k + 1 + i = omega arith in ap p at ∙ rest i b there open_b

-- ---- jobs that ask

open-asking : (o : Outcome) → is_open o ≡ true → IsSome (asked_by o)
open-asking o is = grind (arith, common_steps)

-- a job that is asked is behind its number
record IsAt (js : List Bisection) (number : ℕ) : Type 0 where
  pub place : ℕ
  pub number_is : number ≡ 1 + place
  pub job : Bisection
  pub there : slice_get js place ≡ Some job
  pub under_way : is_under_way job ≡ true

asked-at : (js : List Bisection) (number place : ℕ) → place_asked (job_in number js) ≡ Some place → IsAt js number
asked-at js number place is = grind (arith, common_steps)

not-true : (b : Bool) → not b ≡ true → b ≡ false
not-true b is = grind (arith, common_steps)

not-false : (b : Bool) → not b ≡ false → b ≡ true
not-false b is = grind (arith, common_steps)

pub is-asked : (h : List Entry) (p : ℕ → Bool) (n : ℕ) → find p (open_numbers (jobs h)) ≡ Some n → IsSome (asked n h)
is-asked h p n is =
    let at = found p 1 (jobs h) n is in
    let job : job_in n (jobs h) ≡ Some at.job = grind (arith, common_steps) in
    subst (λ (o : Option ℕ). IsSome o) (sym (ap place_asked job)) (open-asking at.job.outcome at.under_way)

module _ (h : List Entry) (claimed : List ℕ) where
  abbrev free : ℕ → Bool
  free n = not (is_claimed claimed n)

  pub first-question : (n : ℕ) (q : Question) → find free (open_numbers (jobs h)) ≡ Some n → IsQuestion h q → q.job ≡ n → IsFirstQuestion h claimed q
  first-question n q is question same =
      let at = found free 1 (jobs h) n is in
      record {
        question = question;
        free = ap (is_claimed claimed) same ∙ not-true (is_claimed claimed n) at.passes;
        first = λ job place asks unclaimed.
            let one = asked-at (jobs h) job place asks in
            let number = one.number_is in
            let le = at.first one.place one.job one.there one.under_way (ap (λ b. not b) (sym (ap (is_claimed claimed) number) ∙ unclaimed)) in
            let found_at = at.number in
            omega (arith, same, number, le, found_at);
      }

  pub no-question : find free (open_numbers (jobs h)) ≡ None → NoneIsAsked h claimed
  no-question none job place asks = grind (arith, common_steps, asked-at, h, claimed, not-false, missed, free)
