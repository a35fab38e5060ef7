-- A question stays: while a job asks a place, it asks the commit that it asked there, of the same name.
use Rattle.std.proofs.Common.{◌≡◌, ℕ, zero, suc, ◌+◌, ◌-◌, ◌≤◌, Bool, List, [], ◌∷◌, ◌++◌, length, refl, sym, ap, ◌∙◌, Option, Some, None, arith}
use Rattle.std.{specs.Prelude.{IsSome, find, option_map, slice_get, slice_index, unwrap_or}, specs.List.cons_option, proofs.lemmas.Grind.common_steps}
use Rattle.std.proofs.lemmas.List.{take-append-le}
use Rattle.bisect_core.specs.{Bisections.{Bisection, asked_by, bisection}, Turns.Turn, declared.outcome.Outcome.Outcome}
use Rattle.history_model.specs.{declared.entries.Entry.Entry, Allowed.Legal, Commits.{declarations, name_of, numbers_between}, Entries.chosen_from}
use Rattle.history_model.specs.{Followed.{IsNamed, JobsAreNamed}, Jobs.{Begun, begins, begun, commits_of, job_in, jobs, standing_from, turns}}
use Rattle.track_model.specs.Following.{asked_commit, named_by}

some-same : {A : Type 0} (x y : A) → Some x ≡ Some y → x ≡ y
some-same x y is = ap (λ o. unwrap_or o x) is

-- ---- what is chosen of first entries stands first
get-option : {A : Type 0} (o : Option A) (xs ys : List A) → ((k : ℕ) (x : A) → slice_get xs k ≡ Some x → slice_get ys k ≡ Some x)
    → (k : ℕ) (x : A) → slice_get (cons_option o xs) k ≡ Some x → slice_get (cons_option o ys) k ≡ Some x
get-option o xs ys rest k x is = grind (arith, common_steps)

get-stays : {A : Type 0} (choice : ℕ → Entry → Option A) (step : ℕ) (h more : List Entry) (k : ℕ) (x : A)
    → slice_get (chosen_from step choice h) k ≡ Some x → slice_get (chosen_from step choice (h ++ more)) k ≡ Some x
get-stays choice step [] more k x is = absurd (let no : None ≡ Some x = is in cc)
get-stays choice step (e ∷ h) more k x is =
    get-option (choice step e) (chosen_from (step + 1) choice h) (chosen_from (step + 1) choice (h ++ more)) (get-stays choice (step + 1) h more) k x is

find-option : {A : Type 0} (p : A → Bool) (o : Option A) (xs ys : List A) → ((d : A) → find p xs ≡ Some d → find p ys ≡ Some d)
    → (d : A) → find p (cons_option o xs) ≡ Some d → find p (cons_option o ys) ≡ Some d
find-option p o xs ys rest d is = grind (arith, common_steps)

find-stays : {A : Type 0} (p : A → Bool) (choice : ℕ → Entry → Option A) (step : ℕ) (h more : List Entry) (d : A)
    → find p (chosen_from step choice h) ≡ Some d → find p (chosen_from step choice (h ++ more)) ≡ Some d
find-stays p choice step [] more d is = absurd (let no : None ≡ Some d = is in cc)
find-stays p choice step (e ∷ h) more d is =
    find-option p (choice step e) (chosen_from (step + 1) choice h) (chosen_from (step + 1) choice (h ++ more)) (find-stays p choice (step + 1) h more) d is

-- the name of a declared commit stays
name-stays : (number : ℕ) (h more : List Entry) → IsSome (name_of number h) → named_by (h ++ more) number ≡ named_by h number
name-stays number h more there = grind (arith, common_steps, find, option_map, unwrap_or, find-stays)

-- ---- a job has the commits that were declared before it
step-of : (step : ℕ) (e : Entry) (b : Begun) → begun step e ≡ Some b → b.step ≡ step
step-of step e b is = grind (arith, common_steps)

past-option : (o : Option Begun) (step n : ℕ) (xs : List Begun) → ((b : Begun) → o ≡ Some b → b.step ≡ step) → step ≤ n
    → ((k : ℕ) (b : Begun) → slice_get xs k ≡ Some b → b.step ≤ n) → (k : ℕ) (b : Begun) → slice_get (cons_option o xs) k ≡ Some b → b.step ≤ n
past-option o step n xs own le rest k b is = grind (arith, common_steps)

steps-past : (step n : ℕ) (h : List Entry) → step + length h ≤ n + 1 → (k : ℕ) (b : Begun) → slice_get (chosen_from step begun h) k ≡ Some b → b.step ≤ n
steps-past step n [] le k b is = absurd (let no : None ≡ Some b = is in cc)
steps-past step n (e ∷ h) le k b is =
    past-option (begun step e) step n (chosen_from (step + 1) begun h) (step-of step e) (omega (arith, le)) (steps-past (step + 1) n h (omega (arith, le))) k b is

commits-stay : (h more : List Entry) (k : ℕ) (b : Begun) → slice_get (begins h) k ≡ Some b → commits_of (h ++ more) b ≡ commits_of h b
commits-stay h more k b is =
    let past : b.step ≤ length h = steps-past 1 (length h) h (omega arith) k b is in
    ap (λ (g : List Entry). numbers_between b.lo b.hi (declarations g)) (take-append-le (b.step - 1) h more (omega (arith, past)))

standing-get : (h : List Entry) (number : ℕ) (bs : List Begun) (k : ℕ) (b : Bisection) → slice_get (standing_from h number bs) k ≡ Some b
    → (g : Begun) × (slice_get bs k ≡ Some g) × ((ts : List Turn) × (b ≡ bisection (commits_of h g) ts))
standing-get h number [] k b is = absurd (let no : None ≡ Some b = is in cc)
standing-get h number (g ∷ bs) zero b is = (g, refl, (turns number h, sym (some-same (bisection (commits_of h g) (turns number h)) b is)))
standing-get h number (g ∷ bs) (suc k) b is = standing-get h (number + 1) bs k b is

-- the commit that an open job asks is declared
named-asked : (h : List Entry) (b : Bisection) (o : Outcome) (place : ℕ) → asked_by o ≡ Some place → IsNamed h b o → IsSome (name_of (asked_commit b) h)
named-asked h b o place is named = grind (arith, common_steps)

pub question-stays : JobsAreNamed → (h more : List Entry) (job place : ℕ) (b later : Bisection) → Legal h
    → job_in job (jobs h) ≡ Some b → asked_by b.outcome ≡ Some place
    → job_in job (jobs (h ++ more)) ≡ Some later → asked_by later.outcome ≡ Some place
    → named_by (h ++ more) (asked_commit later) ≡ named_by h (asked_commit b)
question-stays named h more zero place b later legal there asks then asks_then = absurd (let no : None ≡ Some b = there in cc)
question-stays named h more (suc k) place b later legal there asks then asks_then =
    let one = standing-get h 1 (begins h) k b there in
    let two = standing-get (h ++ more) 1 (begins (h ++ more)) k later then in
    let g : Begun = one.0 in
    let same : two.0 ≡ g = sym (some-same g two.0 (sym (get-stays begun 1 h more k g one.1) ∙ two.1)) in
    let first : asked_commit b ≡ slice_index (commits_of h g) place = grind (arith, common_steps) in
    let last : asked_commit later ≡ slice_index (commits_of (h ++ more) two.0) place = grind (arith, common_steps) in
    let commits : commits_of (h ++ more) two.0 ≡ commits_of h g = ap (commits_of (h ++ more)) same ∙ commits-stay h more k g one.1 in
    let asked : asked_commit later ≡ asked_commit b = last ∙ ap (λ (cs : List ℕ). slice_index cs place) commits ∙ sym first in
    ap (named_by (h ++ more)) asked ∙ name-stays (asked_commit b) h more (named-asked h b b.outcome place asks (named h (suc k) b legal there))
