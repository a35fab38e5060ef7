-- Which events of regressions and of jobs are allowed, as the indexes tell it.
use Rattle.std.proofs.Common.{◌≡◌, ℕ, zero, suc, ◌+◌, ◌<◌, ◌≤◌, true, false, cond, List, [], ◌∷◌, ◌++◌, length, refl, sym, ap, ◌∙◌, Some, None, arith}
use Rattle.std.{specs.Prelude.slice_get, proofs.lemmas.Bool.{le-leb, lt-leb}, proofs.lemmas.List.{length-append, length-map}}
use Rattle.std.proofs.lemmas.Option.{slice_get_within}
use Rattle.metric_table.specs.Limits.{most}
use Rattle.metric_table.specs.declared.limits.Limit.TheVariants as limit
use Rattle.history_model.specs.declared.{entries.Entry.Entry, entries.Placed.Placed, events.JobEvent.JobEvent}
use Rattle.history_model.specs.declared.entries.Entry.TheVariants as entry
use Rattle.history_model.specs.declared.events.{JobEvent.TheVariants.{Begin, Answer, GiveUp}, Raised.Raised, RegressionEvent.RegressionEvent}
use Rattle.history_model.specs.{Allowed.{Allowed, KeepsLimits}, Entries.entries_of, Followed.{LimitsAfterRegression, LimitsAfterJob, LimitsAfterTurn, IsTurnOf}}
use Rattle.history_model.specs.{Jobs.{jobs, asked, open_count, MayHappen}, Regressions.{regressions, state_of, is_number, MayBecome}}
use Rattle.follow_index.specs.{declared.regressions.Followed.Followed, Followed.{followed, followed_from}, Numbered.followed_in}
use Rattle.machine_state.{specs.Following.state_if, proofs.Followed.followed-length, proofs.Series.no-more}
use Rattle.track_replay.specs.Replays.{IsAllowance}

steps-kept : (h : List Entry) (e : Entry) → Allowed h e → length h < most limit.Steps
steps-kept h e allowed =
    let steps : length (h ++ e ∷ []) ≤ most limit.Steps = allowed.1 limit.Steps in
    let size = length-append h (e ∷ []) in
    omega (arith, steps, size)

-- ---- the regression of a number

state-at : (h : List Entry) (rs : List Raised) (k i : ℕ) (f : Followed) → slice_get (followed_from h k rs) i ≡ Some f → f.state ≡ state_of (k + i) h
state-at h [] k i f there = absurd (none i there)
  where
    none : (i : ℕ) → slice_get {X = Followed} [] i ≡ Some f → ⊥
    none i is = cc
state-at h (r ∷ rs) k zero f there =
    let first : Some (record { raised = r; state = state_of k h }) ≡ Some f = there in
    let here : k ≡ k + 0 = omega arith in
    state-is first ∙ ap (λ (n : ℕ). state_of n h) here
  where
    state-is : Some (record { raised = r; state = state_of k h }) ≡ Some f → f.state ≡ state_of k h
    state-is is = cc
state-at h (r ∷ rs) k (suc i) f there =
    let next : k + 1 + i ≡ k + suc i = omega arith in
    state-at h rs (k + 1) i f there ∙ ap (λ (n : ℕ). state_of n h) next

pub found : (h : List Entry) (number : ℕ) (f : Followed) → followed_in number (followed h) ≡ Some f
    → (is_number (length (regressions h)) number ≡ true) × (f.state ≡ state_of number h)
found h zero f there = absurd (cc)
found h (suc k) f there =
    let within = slice_get_within (followed h) k f there in
    let size = followed-length h 1 (regressions h) in (
      number-is k (omega (arith, within, size)),
      state-at h (regressions h) 1 k f there ∙ ap (λ (n : ℕ). state_of n h) (let e : 1 + k ≡ suc k = omega arith in e),
    )
  where
    number-is : (k : ℕ) → k < length (regressions h) → is_number (length (regressions h)) (suc k) ≡ true
    number-is k lt = rw (le-leb 1 (suc k) (omega arith)) (le-leb (suc k) (length (regressions h)) (omega (arith, lt)))

past : (fs : List Followed) (k : ℕ) → slice_get fs k ≡ None → length fs ≤ k
past [] k none = omega arith
past (f ∷ fs) zero none = absurd (cc)
past (f ∷ fs) (suc k) none = let rest = past fs k none in omega (arith, rest)

pub missing : (h : List Entry) (number : ℕ) → followed_in number (followed h) ≡ None → is_number (length (regressions h)) number ≡ false
missing h zero none = refl
missing h (suc k) none =
    let behind = past (followed h) k none in
    let size = followed-length h 1 (regressions h) in
    rw (le-leb 1 (suc k) (omega arith)) (lt-leb (suc k) (length (regressions h)) (omega (arith, behind, size)))

-- ---- what is allowed, by how many entries were placed

module _ (placed : List Placed) where
  abbrev h : List Entry
  h = entries_of placed

  has-room : length placed < most limit.Steps → length h < most limit.Steps
  has-room room = omega (arith, length-map placed (λ (p : Placed). p.entry))

  module _ (keeps : KeepsLimits h) where
    pub regression-allowed : LimitsAfterRegression → (event : RegressionEvent) → length placed < most limit.Steps → MayBecome h event
        → IsAllowance h (entry.Regression event) (Some 0)
    regression-allowed limits event room may = ((may, limits h event keeps (has-room room)), no-more h (entry.Regression event) refl)

    pub begin-allowed : LimitsAfterJob → (lo hi : ℕ) → length placed < most limit.Steps → MayHappen h (Begin lo hi)
        → open_count (jobs (h ++ entry.Job (Begin lo hi) ∷ [])) ≤ most limit.Jobs → IsAllowance h (entry.Job (Begin lo hi)) (Some 0)
    begin-allowed limits lo hi room may few = ((may, limits h (Begin lo hi) keeps (has-room room) few), no-more h (entry.Job (Begin lo hi)) refl)

    may-turn : (number place : ℕ) (event : JobEvent) → IsTurnOf number place event → asked number h ≡ Some place → MayHappen h event
    may-turn number place (Begin lo hi) turn asks = absurd turn
    may-turn number place (Answer job at status) turn asks = ap (λ (n : ℕ). asked n h) turn.0 ∙ asks ∙ ap Some (sym turn.1)
    may-turn number place (GiveUp job at) turn asks = ap (λ (n : ℕ). asked n h) turn.0 ∙ asks ∙ ap Some (sym turn.1)

    pub turn-allowed : LimitsAfterTurn → (number place : ℕ) (event : JobEvent) → IsTurnOf number place event → length placed < most limit.Steps
        → asked number h ≡ Some place → IsAllowance h (entry.Job event) (Some 0)
    turn-allowed limits number place event turn room asks =
        ((may-turn number place event turn asks, limits h number place event keeps (has-room room) asks turn), no-more h (entry.Job event) refl)

  -- what is not

  pub steps-refused : (e : Entry) → most limit.Steps ≤ length placed → IsAllowance h e None
  steps-refused e full allowed = let room = steps-kept h e allowed in absurd (omega (arith, length-map placed (λ (p : Placed). p.entry)))

pub jobs-refused : (h : List Entry) (lo hi : ℕ) → most limit.Jobs < open_count (jobs (h ++ entry.Job (Begin lo hi) ∷ [])) → IsAllowance h (entry.Job (Begin lo hi)) None
jobs-refused h lo hi full allowed =
    let few : open_count (jobs (h ++ entry.Job (Begin lo hi) ∷ [])) ≤ most limit.Jobs = allowed.1 limit.Jobs in
    absurd (omega (arith, full, few))

-- the state of a regression, where it is there
pub state-some : (h : List Entry) (number : ℕ) (f : Followed) → followed_in number (followed h) ≡ Some f → Some f.state ≡ state_if h number
state-some h number f there =
    let it = found h number f there in
    ap Some it.1 ∙ sym (ap (λ b. cond b (Some (state_of number h)) None) it.0)

pub state-none : (h : List Entry) (number : ℕ) → followed_in number (followed h) ≡ None → None ≡ state_if h number
state-none h number none = sym (ap (λ b. cond b (Some (state_of number h)) None) (missing h number none))
