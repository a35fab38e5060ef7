-- A history with an entry more: where its jobs stand, and its limits.
use Rattle.std.proofs.Common.{◌≡◌, ◌≢◌, ℕ, zero, suc, ◌+◌, ◌-◌, ◌≤◌, ◌<◌, ◌==◌, cond, List, [], ◌∷◌, ◌++◌, length, set, refl, sym, ap, ap₂, ◌∙◌, arith}
use Rattle.std.{specs.Prelude.{option_to_list, slice_get, Some, None}, specs.List.AllByRecursion, proofs.lemmas.Bool.ne_eqb, proofs.lemmas.Grind.common_steps}
use Rattle.std.proofs.lemmas.Option.{slice_get_within}
use Rattle.bisect_core.specs.{Bisections.{Bisection, bisection, IsRecorded}, Turns.Turn}
use Rattle.metric_table.specs.Limits.{most}
use Rattle.metric_table.specs.declared.limits.Limit.TheVariants as limit
use Rattle.history_model.specs.{declared.entries.Entry.Entry, declared.events.JobEvent.JobEvent, Allowed.{Allowed, Legal, KeepsLimits}}
use Rattle.history_model.specs.declared.entries.Entry.TheVariants as entry
use Rattle.history_model.specs.declared.events.JobEvent.TheVariants as event
use Rattle.history_model.specs.{Commits.{declarations, numbers_between}, Followed.IsOfNoJob}
use Rattle.history_model.specs.Jobs.{Begun, begun, begins, said, turns, commits_of, standing_from, jobs, job_in, asked, open_count}
use Rattle.history_model.proofs.{Chosen.{chosen-push, chosen-skip}, OfKind.by-kind, Others.limits-other, Silent.silent}
use Rattle.history_model.proofs.Standings.{IsUpTo, all-past, commits-same, standing-same, jobs-stay}

-- ---- an entry of no job
pub jobs-kept : (h : List Entry) (e : Entry) → IsOfNoJob e → jobs (h ++ e ∷ []) ≡ jobs h
jobs-kept h = grind (arith, common_steps, by-kind, jobs-stay, length)

-- ---- the jobs that are there
pub standing-count : (h : List Entry) (k : ℕ) (bs : List Begun) → length (standing_from h k bs) ≡ length bs
standing-count h k [] = refl
standing-count h k (b ∷ bs) = ap suc (standing-count h (k + 1) bs)

standing-push : (h : List Entry) (k : ℕ) (bs : List Begun) (b : Begun)
    → standing_from h k (bs ++ b ∷ []) ≡ standing_from h k bs ++ bisection (commits_of h b) (turns (length bs + k) h) ∷ []
standing-push h k [] b =
    let same : 0 + k ≡ k = omega arith in
    ap (λ n. bisection (commits_of h b) (turns n h) ∷ []) (sym same)
standing-push h k (c ∷ bs) b =
    let same : length bs + (k + 1) ≡ suc (length bs) + k = omega arith in
    ap (λ xs. bisection (commits_of h c) (turns k h) ∷ xs)
    (standing-push h (k + 1) bs b ∙ ap (λ n. standing_from h (k + 1) bs ++ bisection (commits_of h b) (turns n h) ∷ []) same)

-- a job that asks is there
pub asked-there : (h : List Entry) (job place : ℕ) → asked job h ≡ Some place → job ≤ length (begins h)
asked-there h job place asks = grind (arith, common_steps, length, slice_get, standing-count, slice_get_within)

-- ---- nothing is said of a job before it is begun
other-job : (job n : ℕ) (turn : Turn) → job ≢ n → cond (job == n) (Some turn) None ≡ None
other-job job n turn apart = ap (λ b. cond b (Some turn) None) (ne_eqb job n apart)

none-said : (h : List Entry) (e : Entry) → Allowed h e → (n : ℕ) → length (begins h) < n → said n (length h + 1) e ≡ None
none-said h = grind (arith, common_steps, by-kind, length, asked-there, other-job)

pub untold : (h : List Entry) (number : ℕ) → Legal h → length (begins h) < number → turns number h ≡ []
untold h number legal above = silent begun said none-said h legal number above

-- ---- a job is begun
pub commits-begun : (h : List Entry) (lo hi : ℕ)
    → commits_of (h ++ entry.Job (event.Begin lo hi) ∷ []) (record { step = length h + 1; lo = lo; hi = hi }) ≡ numbers_between lo hi (declarations h)
commits-begun h lo hi = grind (arith, common_steps)

pub job-begun : (h : List Entry) (lo hi : ℕ) → Legal h
    → jobs (h ++ entry.Job (event.Begin lo hi) ∷ []) ≡ jobs h ++ bisection (numbers_between lo hi (declarations h)) [] ∷ []
job-begun h lo hi legal = grind (arith, common_steps, length, chosen-skip, untold, chosen-push, standing-push, ap₂, standing-same, all-past)

-- ---- what is said moves one job on

pub said-other : (step number : ℕ) (e : Entry) (turn : Turn) → said number step e ≡ Some turn → (n : ℕ) → n ≢ number → said n step e ≡ None
said-other step number e turn is n apart = grind (arith, common_steps)

pub said-begins : (step number : ℕ) (e : Entry) (turn : Turn) → said number step e ≡ Some turn → begun step e ≡ None
said-begins step number e turn is = grind (arith, common_steps)

module _ (h : List Entry) (e : Entry) (turn : Turn) (before after : Bisection) (recorded : IsRecorded turn before after) where
  standing-on : (k i : ℕ) (bs : List Begun) → said (i + k) (length h + 1) e ≡ Some turn → AllByRecursion (IsUpTo (length h)) bs
      → slice_get (standing_from h k bs) i ≡ Some before → standing_from (h ++ e ∷ []) k bs ≡ set (standing_from h k bs) i after
  standing-on k i [] says past is = absurd (let no : None ≡ Some before = is in cc)
  standing-on k zero (b ∷ bs) says past is =
      let here : 0 + k ≡ k = omega arith in
      let before_is : before ≡ bisection (commits_of h b) (turns k h) = cc in
      let turns_are : turns k (h ++ e ∷ []) ≡ turns k h ++ turn ∷ [] = grind (arith, common_steps, chosen-push, h, e, option_to_list, length, here) in
      ap₂ (λ (x : Bisection) xs. x ∷ xs)
      (ap₂ bisection (commits-same h e b past.0) turns_are ∙ sym (recorded (commits_of h b) (turns k h) before_is))
      (standing-same h e (k + 1) (λ n le. said-other (length h + 1) (0 + k) e turn says n (λ same. omega (arith, same, le))) bs past.1)
  standing-on k (suc i) (b ∷ bs) says past is =
      let there : suc i + k ≡ i + (k + 1) = omega arith in
      ap₂ (λ (x : Bisection) xs. x ∷ xs)
      (ap₂ bisection (commits-same h e b past.0) (chosen-skip (said k) h e (said-other (length h + 1) (suc i + k) e turn says k (λ same. omega (arith, same)))))
      (standing-on (k + 1) i bs (ap (λ n. said n (length h + 1) e) (sym there) ∙ says) past.1 is)

pub job-goes-on : (h : List Entry) (e : Entry) (number : ℕ) (turn : Turn) (before after : Bisection) → said number (length h + 1) e ≡ Some turn
    → job_in number (jobs h) ≡ Some before → IsRecorded turn before after → jobs (h ++ e ∷ []) ≡ set (jobs h) (number - 1) after
job-goes-on h e number turn before after says is recorded = grind (arith, common_steps, chosen-skip, said-begins, length, standing-on, all-past, set)

-- ---- limits
pub limits-job : (h : List Entry) (e : JobEvent) → KeepsLimits h → length h + 1 ≤ most limit.Steps → open_count (jobs (h ++ entry.Job e ∷ [])) ≤ most limit.Jobs
    → KeepsLimits (h ++ entry.Job e ∷ [])
limits-job h e keeps steps under_way = grind (arith, common_steps, limits-other, chosen-skip)
