-- In a legal history each job is of two commits at least, and what was said of it was asked; so what it found is as it should be.
use Rattle.std.proofs.Common.{◌≡◌, ◌⊎◌, inl, inr, ℕ, zero, suc, ◌+◌, ◌-◌, ◌≤◌, ◌==◌, cond, List, [], ◌∷◌, ◌++◌, length, refl, sym, ap, ap₂, ◌∙◌, subst, arith, Option}
use Rattle.std.{specs.Prelude.{option_to_list, slice_get, Contains, Some, None}, specs.List.AllByRecursion, proofs.lemmas.Bool.{cases_Bool, eqb-true}}
use Rattle.std.proofs.lemmas.{Option.same_Some, Grind.common_steps}
use Rattle.bisect_core.specs.{declared.outcome.Outcome.Outcome, Laws.{AreAsked, EachIsWithinBound, EndsWereAnswered, FoundIsFirstBad}}
use Rattle.bisect_core.specs.declared.outcome.Outcome.TheVariants as outcome
use Rattle.bisect_core.specs.{Bisections.{bisection, asked_by, outcome_by, outcome_after, low_after, high_after, questions_after}, Bounds.IsWithinBound}
use Rattle.bisect_core.specs.Turns.{Turn, tested, given_up, place_of, good_places, bad_places, ending}
use Rattle.history_model.specs.{declared.entries.Entry.Entry, Allowed.{Allowed, Legal}, Commits.{declarations, numbers_between}, Followed.AllFinishWell}
use Rattle.history_model.specs.declared.entries.Entry.TheVariants as entry
use Rattle.history_model.specs.declared.events.JobEvent.TheVariants as event
use Rattle.history_model.{specs.Jobs.{Begun, begun, begins, said, turns, commits_of, standing_from, place_asked, asked}, proofs.Between.between-two}
use Rattle.history_model.proofs.{Chosen.{chosen-push, chosen-skip}, Growth.{legal-each, legal-push}, Jobs.{commits-begun, untold}}
use Rattle.history_model.proofs.Standings.{IsUpTo, all-past, commits-same}

-- ---- lists with one item more
get-push : {A : Type 0} (xs : List A) (x : A) (k : ℕ) (y : A) → slice_get (xs ++ x ∷ []) k ≡ Some y → (slice_get xs k ≡ Some y) ⊎ ((k ≡ length xs) × (x ≡ y))
get-push [] x zero y is = inr (refl, same_Some x y is)
get-push [] x (suc k) y is = absurd (let no : None ≡ Some y = is in cc)
get-push (z ∷ xs) x zero y is = inl is
get-push (z ∷ xs) x (suc k) y is = elim (get-push xs x k y is) [ inl here ↦ inl here | inr last ↦ inr (ap suc last.0, last.1) ]

not-empty : {A : Type 0} (before : List A) (y : A) (behind : List A) → [] ≡ before ++ y ∷ behind → ⊥
not-empty [] y behind is = cc
not-empty (b ∷ before) y behind is = cc

split-push : {A : Type 0} (xs : List A) (x : A) (before : List A) (y : A) (behind : List A) → xs ++ x ∷ [] ≡ before ++ y ∷ behind
    → ((xs ≡ before) × (x ≡ y)) ⊎ ((more : List A) × (xs ≡ before ++ y ∷ more))
split-push [] x [] y behind is = inl (refl, cc)
split-push [] x (b ∷ before) y behind is = absurd (not-empty before y behind (cc))
split-push (a ∷ xs) x [] y behind is = inr (xs, cc)
split-push (a ∷ xs) x (b ∷ before) y behind is = grind (arith, common_steps, split-push xs x before y behind (cc))

past-at : (n : ℕ) (bs : List Begun) (k : ℕ) (b : Begun) → AllByRecursion (IsUpTo n) bs → slice_get bs k ≡ Some b → b.step ≤ n
past-at n [] k b past is = absurd (let no : None ≡ Some b = is in cc)
past-at n (c ∷ bs) zero b past is = subst (IsUpTo n) (same_Some c b is) past.0
past-at n (c ∷ bs) (suc k) b past is = past-at n bs k b past.1 is

-- ---- turns that were asked
asked-more : (n : ℕ) (ts : List Turn) (t : Turn) → AreAsked n ts → outcome_after n ts ≡ outcome.Asks (place_of t) → AreAsked n (ts ++ t ∷ [])
asked-more n ts t all asks before turn behind is = grind (arith, common_steps, split-push)

pub asks-place : (o : Outcome) (place : ℕ) → asked_by o ≡ Some place → o ≡ outcome.Asks place
asks-place o place is = grind (arith, common_steps)

-- where the job of a number stands
standing-at : (h : List Entry) (k i : ℕ) (bs : List Begun) (b : Begun) → slice_get bs i ≡ Some b
    → slice_get (standing_from h k bs) i ≡ Some (bisection (commits_of h b) (turns (i + k) h))
standing-at h k i [] b is = absurd (let no : None ≡ Some b = is in cc)
standing-at h k zero (c ∷ bs) b is =
    let here : k ≡ 0 + k = omega arith in
    ap₂ (λ (x : Begun) n. Some (bisection (commits_of h x) (turns n h))) (same_Some c b is) here
standing-at h k (suc i) (c ∷ bs) b is =
    let there : i + (k + 1) ≡ suc i + k = omega arith in
    standing-at h (k + 1) i bs b is ∙ ap (λ n. Some (bisection (commits_of h b) (turns n h))) there

-- ---- each job of a legal history
abbrev pub IsWellAsked : List ℕ → List Turn → Type 0
IsWellAsked commits ts = (1 ≤ length commits - 1) × AreAsked (length commits - 1) ts

AllAsked : List Entry → Type 0
AllAsked h = Legal h × ((k : ℕ) (b : Begun) → slice_get (begins h) k ≡ Some b → IsWellAsked (commits_of h b) (turns (k + 1) h))

-- an entry that begins none, and after which what was said of each job is asked where it was before
kept : (h : List Entry) (e : Entry) → Allowed h e → begun (length h + 1) e ≡ None
    → ((k : ℕ) (b : Begun) → slice_get (begins h) k ≡ Some b → AreAsked (length (commits_of h b) - 1) (turns (k + 1) h)
    → AreAsked (length (commits_of h b) - 1) (turns (k + 1) (h ++ e ∷ [])))
    → AllAsked h → AllAsked (h ++ e ∷ [])
unfolding AllAsked
kept h e allowed none goes all = (legal-push h e all.0 allowed, at)
  where
    at : (k : ℕ) (b : Begun) → slice_get (begins (h ++ e ∷ [])) k ≡ Some b → IsWellAsked (commits_of (h ++ e ∷ []) b) (turns (k + 1) (h ++ e ∷ []))
    at k b is =
        let there : slice_get (begins h) k ≡ Some b = ap (λ bs. slice_get bs k) (sym (chosen-skip begun h e none)) ∙ is in
        let was = all.1 k b there in
        let P : List ℕ → Type 0 = λ commits. (1 ≤ length commits - 1) × AreAsked (length commits - 1) (turns (k + 1) (h ++ e ∷ [])) in
        subst P (sym (commits-same h e b (past-at (length h) (begins h) k b (all-past h) there))) (was.0, goes k b there was.1)

-- an entry that says nothing of any
silent : (h : List Entry) (e : Entry) → Allowed h e → begun (length h + 1) e ≡ None → ((n : ℕ) → said n (length h + 1) e ≡ None) → AllAsked h → AllAsked (h ++ e ∷ [])
silent h e allowed none says all = grind (arith, common_steps, kept, length, commits_of, chosen-skip, said)

-- an entry that says something of the place that a job asks
telling : (h : List Entry) (e : Entry) (job : ℕ) (t : Turn) → Allowed h e → begun (length h + 1) e ≡ None
    → ((n : ℕ) → said n (length h + 1) e ≡ cond (job == n) (Some t) None) → asked job h ≡ Some (place_of t) → AllAsked h → AllAsked (h ++ e ∷ [])
telling h e job t allowed none says asks all = kept h e allowed none goes all
  where
    goes : (k : ℕ) (b : Begun) → slice_get (begins h) k ≡ Some b → AreAsked (length (commits_of h b) - 1) (turns (k + 1) h)
        → AreAsked (length (commits_of h b) - 1) (turns (k + 1) (h ++ e ∷ []))
    goes k b is before =
        let P : List Turn → Type 0 = λ ts. AreAsked (length (commits_of h b) - 1) ts in
        elim (cases_Bool (job == (k + 1))) [
          | inl same ↦
              let number : job ≡ suc k = (let e : job ≡ k + 1 = eqb-true job (k + 1) same in omega (arith, e)) in
              let here : place_asked (Some (bisection (commits_of h b) (turns (k + 1) h))) ≡ Some (place_of t) =
              sym (ap place_asked (standing-at h 1 k (begins h) b is)) ∙ sym (ap (λ n. asked n h) number) ∙ asks in
              let more : turns (k + 1) (h ++ e ∷ []) ≡ turns (k + 1) h ++ t ∷ [] =
              chosen-push (said (k + 1)) h e
              ∙ ap (λ (o : Option Turn). turns (k + 1) h ++ option_to_list o) (says (k + 1) ∙ ap (λ c. cond c (Some t) None) same) in
              subst P (sym more)
              (asked-more (length (commits_of h b) - 1) (turns (k + 1) h) t before
              (asks-place (outcome_after (length (commits_of h b) - 1) (turns (k + 1) h)) (place_of t) here))
          | inr other ↦ subst P (sym (chosen-skip (said (k + 1)) h e (says (k + 1) ∙ ap (λ c. cond c (Some t) None) other))) before
        ]

-- an entry that begins one
module _ (h : List Entry) (lo hi : ℕ) where
  abbrev e : Entry
  e = entry.Job (event.Begin lo hi)

  abbrev new : Begun
  new = record { step = length h + 1; lo = lo; hi = hi }

  new-asked : (k : ℕ) → k ≡ length (begins h) → Legal h → Allowed h e → IsWellAsked (commits_of (h ++ e ∷ []) new) (turns (k + 1) (h ++ e ∷ []))
  new-asked k is legal allowed =
      let P : List ℕ → Type 0 = λ commits. (1 ≤ length commits - 1) × AreAsked (length commits - 1) (turns (k + 1) (h ++ e ∷ [])) in
      let none_said : turns (k + 1) (h ++ e ∷ []) ≡ [] = chosen-skip (said (k + 1)) h e refl ∙ untold h (k + 1) legal (omega (arith, is)) in
      let Q : List Turn → Type 0 = λ ts. AreAsked (length (numbers_between lo hi (declarations h)) - 1) ts in
      let two = between-two lo hi (declarations h) allowed.0.2 allowed.0.0 allowed.0.1 in
      subst P (sym (commits-begun h lo hi))
      (omega (arith, two), subst Q (sym none_said) (λ before turn behind never. absurd (not-empty before turn behind never)))

  beginning : Allowed h e → AllAsked h → AllAsked (h ++ e ∷ [])
  unfolding AllAsked
  beginning allowed all = (legal-push h e all.0 allowed, at)
    where
      at : (k : ℕ) (b : Begun) → slice_get (begins (h ++ e ∷ [])) k ≡ Some b → IsWellAsked (commits_of (h ++ e ∷ []) b) (turns (k + 1) (h ++ e ∷ []))
      at k b is = elim (get-push (begins h) new k b (ap (λ bs. slice_get bs k) (sym (chosen-push begun h e)) ∙ is)) [
        | inl there ↦
            let was = all.1 k b there in
            let P : List ℕ → Type 0 = λ commits. (1 ≤ length commits - 1) × AreAsked (length commits - 1) (turns (k + 1) (h ++ e ∷ [])) in
            let Q : List Turn → Type 0 = λ ts. AreAsked (length (commits_of h b) - 1) ts in
            subst P (sym (commits-same h e b (past-at (length h) (begins h) k b (all-past h) there)))
            (was.0, subst Q (sym (chosen-skip (said (k + 1)) h e refl)) was.1)
        | inr here ↦ subst (λ (c : Begun). IsWellAsked (commits_of (h ++ e ∷ []) c) (turns (k + 1) (h ++ e ∷ []))) here.1 (new-asked k here.0 all.0 allowed)
      ]

asked-grown : (h : List Entry) (e : Entry) → Allowed h e → AllAsked h → AllAsked (h ++ e ∷ [])
asked-grown h (entry.Commit number name) allowed all = silent h (entry.Commit number name) allowed refl (λ n. refl) all
asked-grown h (entry.Accept run) allowed all = silent h (entry.Accept run) allowed refl (λ n. refl) all
asked-grown h (entry.Retract run) allowed all = silent h (entry.Retract run) allowed refl (λ n. refl) all
asked-grown h (entry.Tune metric penalty len) allowed all = silent h (entry.Tune metric penalty len) allowed refl (λ n. refl) all
asked-grown h (entry.Publish p) allowed all = silent h (entry.Publish p) allowed refl (λ n. refl) all
asked-grown h (entry.Regression e) allowed all = silent h (entry.Regression e) allowed refl (λ n. refl) all
asked-grown h (entry.Job (event.Begin lo hi)) allowed all = beginning h lo hi allowed all
asked-grown h (entry.Job (event.Answer job place status)) allowed all =
    telling h (entry.Job (event.Answer job place status)) job (tested place status) allowed refl (λ n. refl) allowed.0 all
asked-grown h (entry.Job (event.GiveUp job place)) allowed all =
    telling h (entry.Job (event.GiveUp job place)) job (given_up place) allowed refl (λ n. refl) allowed.0 all

all-asked : (h : List Entry) → Legal h → AllAsked h
unfolding AllAsked
all-asked h legal = legal-each AllAsked (tt, λ k b is. absurd (let no : None ≡ Some b = is in cc)) asked-grown h legal

pub asked-well : (h : List Entry) → Legal h → (k : ℕ) (b : Begun) → slice_get (begins h) k ≡ Some b → IsWellAsked (commits_of h b) (turns (k + 1) h)
unfolding AllAsked
asked-well h legal = (all-asked h legal).1

pub within-bound : EachIsWithinBound → (h : List Entry) → Legal h → (k : ℕ) (b : Begun) → slice_get (begins h) k ≡ Some b
    → IsWithinBound (length (commits_of h b) - 1) (low_after (turns (k + 1) h)) (high_after (length (commits_of h b) - 1) (turns (k + 1) h)) (questions_after (turns (k + 1) h))
within-bound bound_law h legal k b is =
    let well = asked-well h legal k b is in
    bound_law (length (commits_of h b) - 1) (turns (k + 1) h) well.0 well.1

-- ---- what was found
found-ends : (o : Option Turn) (low high lo hi : ℕ) → outcome_by o low high ≡ outcome.Found lo hi → (low ≡ lo) × (high ≡ hi)
found-ends o low high lo hi is = grind (arith, common_steps)

pub finish-well : EachIsWithinBound → EndsWereAnswered → FoundIsFirstBad → (h : List Entry) → Legal h → AllFinishWell h
finish-well bound_law ends_law found_law h legal k b is lo hi found =
    let n : ℕ = length (commits_of h b) - 1 in
    let ts : List Turn = turns (k + 1) h in
    let are : (low_after ts ≡ lo) × (high_after n ts ≡ hi) = found-ends (ending ts) (low_after ts) (high_after n ts) lo hi found in
    record {
      neighbours = (found_law n ts lo hi found).0;
      good = subst (λ (x : ℕ). (x ≡ 0) ⊎ Contains (good_places ts) x) are.0 (ends_law n ts).0;
      bad = subst (λ (x : ℕ). (x ≡ n) ⊎ Contains (bad_places ts) x) are.1 (ends_law n ts).1;
      bound = (within-bound bound_law h legal k b is).asked;
    }
