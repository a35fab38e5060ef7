-- The declared numbers from one to another: they rise, and both ends stand there.
use Rattle.std.proofs.lemmas.Grind.{common_steps}
use Rattle.std.proofs.Common.{◌≡◌, ℕ, zero, suc, ◌+◌, ◌-◌, ◌≤◌, ◌<◌, Bool, true, false, cond, List, ◌∷◌, length, get_or, sym, ap, ◌∙◌, arith}
use Rattle.std.{specs.Prelude.{filter, is_some, IsSome}, specs.List.Sorted.IsStrictlyIncreasing, proofs.lemmas.List.Kept.IsStrictlyIncreasing-filter}
use Rattle.history_model.specs.{declared.entries.Declaration.Declaration, Commits.{name_in, numbers_from, numbers_between}}

numbers-at : (lo count k d : ℕ) → k < length (numbers_from lo count) → get_or (numbers_from lo count) k d ≡ lo + k
numbers-at lo zero k d lt = absurd (omega (arith, lt))
numbers-at lo (suc count) zero d lt = omega arith
numbers-at lo (suc count) (suc k) d lt = omega (arith, numbers-at (lo + 1) count k d (omega (arith, lt)))

numbers-rise : (lo count : ℕ) → IsStrictlyIncreasing (numbers_from lo count)
numbers-rise lo count k lt = grind (arith, common_steps, numbers-at)

pub between-rise : (lo hi : ℕ) (commits : List Declaration) → IsStrictlyIncreasing (numbers_between lo hi commits)
between-rise lo hi commits = IsStrictlyIncreasing-filter (λ n. is_some (name_in n commits)) (numbers_from lo (hi + 1 - lo)) (numbers-rise lo (hi + 1 - lo))

-- ---- both ends stand there
module _ (p : ℕ → Bool) where
  pub last-stays : (lo count : ℕ) → p (lo + count) ≡ true → 1 ≤ length (filter p (numbers_from lo (suc count)))
  last-stays lo zero here = grind (arith, common_steps)
  last-stays lo (suc count) here =
      let same : lo + suc count ≡ lo + 1 + count = omega arith in
      let rest = last-stays (lo + 1) count (ap p (sym same) ∙ here) in
      elim (p lo) as (λ b. 1 ≤ length (cond b (lo ∷ filter p (numbers_from (lo + 1) (suc count))) (filter p (numbers_from (lo + 1) (suc count)))))
      [ true ↦ omega arith | false ↦ rest ]

pub between-two : (lo hi : ℕ) (commits : List Declaration) → lo < hi → IsSome (name_in lo commits) → IsSome (name_in hi commits) → 2 ≤ length (numbers_between lo hi commits)
between-two lo hi commits lt first last = at (hi - lo - 1) (omega (arith, lt))
  where
    at : (count : ℕ) → lo + 1 + count ≡ hi → 2 ≤ length (numbers_between lo hi commits)
    at count same =
        let all : hi + 1 - lo ≡ suc (suc count) = omega (arith, same) in
        let kept : is_some (name_in lo commits) ≡ true = first in
        let top : is_some (name_in (lo + 1 + count) commits) ≡ true = ap (λ n. is_some (name_in n commits)) same ∙ last in
        let rest = last-stays (λ n. is_some (name_in n commits)) (lo + 1) count top in
        rw all (rw kept (omega (arith, rest)))
