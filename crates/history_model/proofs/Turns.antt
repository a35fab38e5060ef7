-- How many jobs are open: one more where one is begun of three commits or more, and no more where something is said of one.
use Rattle.std.proofs.Common.{◌≡◌, ℕ, zero, suc, ◌+◌, ◌-◌, ◌≤◌, ◌<◌, true, nat_lt, cond, List, [], ◌∷◌, ◌++◌, length, refl, sym, ap, ◌∙◌, arith}
use Rattle.std.{specs.Prelude.{slice_get, IsSome, Some, None, Option}, specs.List.AllByRecursion, proofs.lemmas.Grind.common_steps}
use Rattle.std.proofs.lemmas.{Bool.eq-eqb, Option.same_Some}
use Rattle.bisect_core.specs.{Bisections.{Bisection, bisection, is_open, between}, Turns.{Turn, tested, given_up}}
use Rattle.metric_table.specs.Limits.{most}
use Rattle.metric_table.specs.declared.limits.Limit.TheVariants as limit
use Rattle.history_model.specs.{declared.entries.Entry.Entry, declared.events.JobEvent.JobEvent, Allowed.{Legal, KeepsLimits}}
use Rattle.history_model.specs.declared.entries.Entry.TheVariants as entry
use Rattle.history_model.specs.declared.events.JobEvent.TheVariants as event
use Rattle.history_model.specs.{Commits.{declarations, name_of, numbers_between}, Followed.IsTurnOf}
use Rattle.history_model.specs.Jobs.{Begun, begun, begins, said, turns, commits_of, standing_from, jobs, place_asked, asked, is_under_way, open_count}
use Rattle.history_model.proofs.{Between.between-two, Chosen.chosen-skip, Finished.asks-place, Jobs.{said-begins, said-other, job-begun, limits-job}}
use Rattle.history_model.proofs.Standings.{IsUpTo, all-past, commits-same, standing-same}

-- ---- one job more
open-push : (js : List Bisection) (b : Bisection) → open_count (js ++ b ∷ []) ≡ open_count js + cond (is_under_way b) 1 0
open-push js b = grind (arith, common_steps)

-- ends at the first and the last of two places or more are neighbours exactly where there are two
between-open : (count : ℕ) → 2 ≤ count → is_open (between 0 (count - 1)) ≡ nat_lt 2 count
between-open count two = grind (arith, common_steps)

pub begin-opens : (h : List Entry) (lo hi : ℕ) → Legal h → IsSome (name_of lo h) → IsSome (name_of hi h) → lo < hi
    → open_count (jobs (h ++ entry.Job (event.Begin lo hi) ∷ [])) ≡ open_count (jobs h) + cond (nat_lt 2 (length (numbers_between lo hi (declarations h)))) 1 0
begin-opens h lo hi legal first last lt = grind (arith, common_steps, job-begun, open-push, cond, between-open, length, between-two)

-- ---- something is said of an open one
no-more : (x y : Bisection) (xs ys : List Bisection) → is_under_way y ≡ true → open_count xs ≤ open_count ys → open_count (x ∷ xs) ≤ open_count (y ∷ ys)
no-more x y xs ys under_way le = grind (arith, common_steps)

same-first : (x y : Bisection) (xs ys : List Bisection) → x ≡ y → open_count xs ≤ open_count ys → open_count (x ∷ xs) ≤ open_count (y ∷ ys)
same-first x y xs ys is le = grind (arith, common_steps)

module _ (h : List Entry) (e : Entry) (turn : Turn) (before : Bisection) (under_way : is_under_way before ≡ true) where
  open-on : (k i : ℕ) (bs : List Begun) → said (i + k) (length h + 1) e ≡ Some turn → AllByRecursion (IsUpTo (length h)) bs
      → slice_get (standing_from h k bs) i ≡ Some before → open_count (standing_from (h ++ e ∷ []) k bs) ≤ open_count (standing_from h k bs)
  open-on k i [] says past is = omega arith
  open-on k zero (b ∷ bs) says past is = grind (arith, common_steps, h, e, standing-same, said-other, length, turn, same_Some, before)
  open-on k (suc i) (b ∷ bs) says past is =
      let there : suc i + k ≡ i + (k + 1) = omega arith in
      let none : said k (length h + 1) e ≡ None = said-other (length h + 1) (suc i + k) e turn says k (λ same. omega (arith, same)) in
      same-first (bisection (commits_of (h ++ e ∷ []) b) (turns k (h ++ e ∷ []))) (bisection (commits_of h b) (turns k h))
      (standing_from (h ++ e ∷ []) (k + 1) bs) (standing_from h (k + 1) bs)
      (ap (λ commits. bisection commits (turns k (h ++ e ∷ []))) (commits-same h e b past.0) ∙ ap (bisection (commits_of h b)) (chosen-skip (said k) h e none))
      (open-on (k + 1) i bs (ap (λ n. said n (length h + 1) e) (sym there) ∙ says) past.1 is)

open-after : (h : List Entry) (e : Entry) (number place : ℕ) (turn : Turn) → said number (length h + 1) e ≡ Some turn → asked number h ≡ Some place
    → open_count (jobs (h ++ e ∷ [])) ≤ open_count (jobs h)
open-after h e zero place turn says asks = absurd (let no : None ≡ Some place = asks in cc)
open-after h e (suc i) place turn says asks = at (slice_get (jobs h) i) refl asks
  where
    at : (o : Option Bisection) → slice_get (jobs h) i ≡ o → place_asked o ≡ Some place → open_count (jobs (h ++ e ∷ [])) ≤ open_count (jobs h)
    at None is none = absurd (let no : None ≡ Some place = none in cc)
    at (Some before) is some =
        let there : suc i ≡ i + 1 = omega arith in
        let same : begins (h ++ e ∷ []) ≡ begins h = chosen-skip begun h e (said-begins (length h + 1) (suc i) e turn says) in
        let fewer = open-on h e turn before (ap is_open (asks-place before.outcome place some)) 1 i (begins h) (ap (λ n. said n (length h + 1) e) (sym there) ∙ says) (all-past h) is in
        omega (arith, fewer, ap (λ bs. open_count (standing_from (h ++ e ∷ []) 1 bs)) same)

pub limits-turn : (h : List Entry) (number place : ℕ) (e : JobEvent) → KeepsLimits h → length h + 1 ≤ most limit.Steps → asked number h ≡ Some place
    → IsTurnOf number place e → KeepsLimits (h ++ entry.Job e ∷ [])
limits-turn h number place (event.Begin lo hi) keeps steps asks turn = absurd turn
limits-turn h number place (event.Answer job at status) keeps steps asks turn =
    let fewer = open-after h (entry.Job (event.Answer job at status)) number place (tested at status) (ap (λ b. cond b (Some (tested at status)) None) (eq-eqb job number turn.0)) asks in
    let was = keeps limit.Jobs in
    limits-job h (event.Answer job at status) keeps steps (omega (arith, fewer, was))
limits-turn h number place (event.GiveUp job at) keeps steps asks turn =
    let fewer = open-after h (entry.Job (event.GiveUp job at)) number place (given_up at) (ap (λ b. cond b (Some (given_up at)) None) (eq-eqb job number turn.0)) asks in
    let was = keeps limit.Jobs in
    limits-job h (event.GiveUp job at) keeps steps (omega (arith, fewer, was))
