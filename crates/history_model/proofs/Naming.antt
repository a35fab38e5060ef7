-- In a legal history the commits that are told of a job are declared.
use Rattle.std.proofs.lemmas.Grind.{common_steps}
use Rattle.std.proofs.Common.{◌≡◌, ℕ, zero, suc, ◌+◌, ◌-◌, ◌<◌, ◌≤◌, Bool, cond, List, [], ◌∷◌, ◌++◌, length, sym, ap, ◌∙◌, subst, arith, Option, inl, inr}
use Rattle.std.{specs.Prelude.{find, slice_index, IsSome, Some, None}, proofs.lemmas.Bool.cases_Bool, proofs.lemmas.Option.same_Some}
use Rattle.bisect_core.specs.{Bisections.{Bisection, standing, is_open, outcome_by, low_after, high_after, questions_after}, Laws.{AreAsked, EachIsWithinBound}}
use Rattle.bisect_core.specs.{Turns.{Turn, place_of, ending}, declared.outcome.Outcome.Outcome, declared.outcome.Outcome.TheVariants.Asks}
use Rattle.history_model.specs.{declared.entries.Entry.Entry, Allowed.Legal, Commits.name_of, Followed.IsNamed, Jobs.{begins, turns, commits_of, jobs, job_in}}
use Rattle.history_model.proofs.{Ends.{begun-at, commit-declared}, Finished.{asked-well, within-bound}}

-- ---- the place at which it ended

found-in : {A : Type 0} (p : A → Bool) (xs : List A) (x : A) → find p xs ≡ Some x → (before : List A) × (behind : List A) × (xs ≡ before ++ x ∷ behind)
found-in p [] x is = absurd (let never : None ≡ Some x = is in cc)
found-in p (y ∷ xs) x is = elim (cases_Bool (p y)) [
  | inl hit ↦
      let first : Some y ≡ Some x = sym (ap (λ b. cond b (Some y) (find p xs)) hit) ∙ is in
      ([], xs, ap (λ z. z ∷ xs) (same_Some y x first))
  | inr miss ↦
      let rest = found-in p xs x (sym (ap (λ b. cond b (Some y) (find p xs)) miss) ∙ is) in
      (y ∷ rest.0, rest.1, ap (λ zs. y ∷ zs) rest.2)
]

asked-before : (n : ℕ) (ts before : List Turn) (turn : Turn) (behind : List Turn) → ts ≡ before ++ turn ∷ behind → AreAsked n ts → AreAsked n before
asked-before n ts before turn behind is all first t more split = grind (arith, common_steps)

asked-within : (e : Option Turn) (low high place : ℕ) → low < high → outcome_by e low high ≡ Asks place → place < high
asked-within e low high place apart is = grind (arith, common_steps)

end-within : EachIsWithinBound → (n : ℕ) (ts : List Turn) (turn : Turn) → 1 ≤ n → AreAsked n ts → ending ts ≡ Some turn → place_of turn ≤ n
end-within bound_law n ts turn many asked ended = grind (arith, common_steps, found-in, asked-before, asked-within)

-- ---- what is told of it

module _ (h : List Entry) (commits : List ℕ) (low high questions : ℕ) (declared : (k : ℕ) → k < length commits → IsSome (name_of (slice_index commits k) h)) (apart : low < high) (inside : high < length commits) where
  abbrev going : Outcome → Bisection
  going o = record {
    commits = cond (is_open o) (Some commits) None;
    range = length commits - 1;
    low = low;
    high = high;
    questions = questions;
    outcome = o;
    low_commit = slice_index commits low;
    high_commit = slice_index commits high;
    end_commit = None;
  }

  named-standing : (e : Option Turn) → ((turn : Turn) → e ≡ Some turn → place_of turn < length commits)
      → IsNamed h (standing commits low high questions e) (outcome_by e low high)
  named-standing e placed = grind (arith, common_steps)

pub jobs-named : EachIsWithinBound → (h : List Entry) (number : ℕ) (b : Bisection) → Legal h → job_in number (jobs h) ≡ Some b → IsNamed h b b.outcome
jobs-named bound_law h zero b legal is = absurd (let no : None ≡ Some b = is in cc)
jobs-named bound_law h (suc i) b legal is =
    let at = begun-at h 1 i (begins h) b is in
    let commits : List ℕ = commits_of h at.0 in
    let ts : List Turn = turns (i + 1) h in
    let well = asked-well h legal i at.0 at.1 in
    let bound = within-bound bound_law h legal i at.0 at.1 in
    let apart : low_after ts < high_after (length commits - 1) ts = bound.apart in
    let inside : high_after (length commits - 1) ts < length commits = omega (arith, bound.inside, apart) in
    let P : Bisection → Type 0 = λ x. IsNamed h x x.outcome in
    subst P at.2
    (named-standing h commits (low_after ts) (high_after (length commits - 1) ts) (questions_after ts) (commit-declared h at.0) apart inside (ending ts)
    (λ turn ended. let end = end-within bound_law (length commits - 1) ts turn well.0 well.1 ended in omega (arith, end, bound.inside, apart)))
