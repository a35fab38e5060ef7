-- In a legal history the commits at the ends of each job are declared, in their order.
use Rattle.std.proofs.{Common.{◌≡◌, ℕ, zero, suc, ◌+◌, ◌-◌, ◌<◌, List, [], ◌∷◌, length, subst, arith}, lemmas.Grind.common_steps}
use Rattle.std.{specs.Prelude.{drop, is_some, slice_get, slice_index, take, IsSome, Some, None}, proofs.lemmas.List.take-append-drop}
use Rattle.std.proofs.lemmas.List.{Elements.filter_passes, Kept.AllPairs-from_increasing}
use Rattle.bisect_core.specs.{Bisections.{Bisection, bisection, low_after, high_after}, Laws.EachIsWithinBound, Turns.Turn}
use Rattle.history_model.specs.{declared.entries.Entry.Entry, Allowed.Legal, Commits.{declarations, name_in, name_of, numbers_from}}
use Rattle.history_model.{specs.Jobs.{Begun, begins, turns, commits_of, standing_from, jobs, job_in}, proofs.Between.between-rise, proofs.Changes.named-more}
use Rattle.history_model.proofs.Finished.{within-bound}

-- what a job of some number is of
pub begun-at : (h : List Entry) (k i : ℕ) (bs : List Begun) (b : Bisection) → slice_get (standing_from h k bs) i ≡ Some b
    → (g : Begun) × (slice_get bs i ≡ Some g) × (bisection (commits_of h g) (turns (i + k) h) ≡ b)
begun-at h k i [] b is = absurd (let no : None ≡ Some b = is in cc)
begun-at h k zero (g ∷ bs) b is = grind (arith, common_steps)
begun-at h k (suc i) (g ∷ bs) b is = grind (arith, common_steps, begun-at h (k + 1) i bs b is)

-- the commits of a job are declared
pub commit-declared : (h : List Entry) (g : Begun) (k : ℕ) → k < length (commits_of h g) → IsSome (name_of (slice_index (commits_of h g) k) h)
commit-declared h g k lt =
    let version : List Entry = take (g.step - 1) h in
    let c : ℕ = slice_index (commits_of h g) k in
    let P : List Entry → Type 0 = λ v. IsSome (name_of c v) in
    subst P (take-append-drop (g.step - 1) h)
    (named-more c version (drop (g.step - 1) h)
    (filter_passes (λ n. is_some (name_in n (declarations version))) (numbers_from g.lo (g.hi + 1 - g.lo)) k 0 lt))

pub ends-declared : EachIsWithinBound → (h : List Entry) (number : ℕ) (b : Bisection) → Legal h → job_in number (jobs h) ≡ Some b
    → IsSome (name_of b.low_commit h) × IsSome (name_of b.high_commit h) × (b.low_commit < b.high_commit)
ends-declared bound_law h zero b legal is = absurd (let no : None ≡ Some b = is in cc)
ends-declared bound_law h (suc i) b legal is =
    let at = begun-at h 1 i (begins h) b is in
    let commits : List ℕ = commits_of h at.0 in
    let ts : List Turn = turns (i + 1) h in
    let bound = within-bound bound_law h legal i at.0 at.1 in
    let apart : low_after ts < high_after (length commits - 1) ts = bound.apart in
    let inside : high_after (length commits - 1) ts < length commits = omega (arith, bound.inside, apart) in
    let P : Bisection → Type 0 = λ x. IsSome (name_of x.low_commit h) × IsSome (name_of x.high_commit h) × (x.low_commit < x.high_commit) in
    subst P at.2 (
      commit-declared h at.0 (low_after ts) (omega (arith, apart, inside)),
      commit-declared h at.0 (high_after (length commits - 1) ts) inside,
      AllPairs-from_increasing commits (between-rise at.0.lo at.0.hi (declarations (take (at.0.step - 1) h))) (low_after ts) (high_after (length commits - 1) ts) 0 apart inside,
    )
