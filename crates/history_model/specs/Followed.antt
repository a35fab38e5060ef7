-- What holds of the regressions and of the jobs of all histories.
use Rattle.std.specs.Prelude.{◌≡◌, ◌⊎◌, ℕ, ◌+◌, ◌-◌, ◌*◌, ◌^◌, ◌<◌, ◌≤◌, nat_lt, if◌then◌else◌, List, [], ◌∷◌, ◌++◌, length, set, slice_get, slice_index, unwrap_or, All, Contains, option_to_list, IsSome, Some, None}
use Rattle.std.specs.List.Sorted.{IsStrictlyIncreasing}
use Rattle.bisect_core.specs.{Bisections.{Bisection, bisection, asked_by, IsRecorded, outcome_after, questions_after}, Turns.{Turn, good_places, bad_places}}
use Rattle.bisect_core.specs.declared.outcome.Outcome.{Outcome, TheVariants.{Asks, Found, Undecided, Faulted}}
use Rattle.metric_table.specs.Limits.{most}
use Rattle.metric_table.specs.declared.limits.Limit.TheVariants as limit
use Rattle.regression_state.specs.declared.states.State.{State, TheVariants.Detected}
use Rattle.history_model.specs.declared.{entries.Declaration.Declaration, entries.Entry.Entry, events.JobEvent.JobEvent, events.Raised.Raised}
use Rattle.history_model.specs.declared.entries.Entry.TheVariants as entry
use Rattle.history_model.specs.declared.events.JobEvent.TheVariants as event
use Rattle.history_model.specs.{declared.events.RegressionEvent.RegressionEvent, Allowed.{Legal, KeepsLimits}, declared.publication.Publication.Publication}
use Rattle.segment_model.specs.Limits.{commits_of as commits_in}
use Rattle.history_model.specs.{Commits.{declarations, name_in, name_of, numbers_between}, Positions.positions, Publications.{Stands, spoken_of, published}}
use Rattle.history_model.specs.Jobs.{Begun, begins, said, turns, commits_of, jobs, job_in, asked, open_count}
use Rattle.history_model.specs.Regressions.{raised, regressions, moved, state_of}

-- ---- regressions

-- an entry adds the change that it raises
abbrev pub RegressionsGrow : Type 0
RegressionsGrow = (h : List Entry) (e : Entry) → regressions (h ++ e ∷ []) ≡ regressions h ++ option_to_list (raised (length h + 1) e)

-- a regression that an entry moves is in the state to which it moves
abbrev pub StateIsMoved : Type 0
StateIsMoved =
    (h : List Entry) (e : Entry) (number : ℕ) (state : State) → moved number (length h + 1) e ≡ Some state
    → state_of number (h ++ e ∷ []) ≡ state

-- every other entry leaves it
abbrev pub StateStays : Type 0
StateStays =
    (h : List Entry) (e : Entry) (number : ℕ) → moved number (length h + 1) e ≡ None
    → state_of number (h ++ e ∷ []) ≡ state_of number h

-- none moves before it is raised
abbrev pub NewIsDetected : Type 0
NewIsDetected = (h : List Entry) (number : ℕ) → Legal h → length (regressions h) < number → state_of number h ≡ Detected

-- what becomes of a regression keeps the limits where there is room for a step
abbrev pub LimitsAfterRegression : Type 0
LimitsAfterRegression =
    (h : List Entry) (e : RegressionEvent) → KeepsLimits h → length h < most limit.Steps → KeepsLimits (h ++ entry.Regression e ∷ [])

-- a cut stands between positions of declared commits, in their order
pub record IsBetweenDeclared (h : List Entry) (commits : List ℕ) (cut : ℕ) : Type 0 where
  pub before : IsSome (name_of (slice_index commits (cut - 1)) h)
  pub after : IsSome (name_of (slice_index commits cut) h)
  pub rising : slice_index commits (cut - 1) < slice_index commits cut

-- so does each cut of a publication that stands in a legal history
abbrev pub CutsAreBetweenDeclared : Type 0
CutsAreBetweenDeclared =
    (h : List Entry) (p : Publication) → Legal h → Stands h p → (k : ℕ) → k < length p.cuts
    → IsBetweenDeclared h (commits_in (positions (spoken_of h p) (published p))) (slice_index p.cuts k)

-- ---- jobs

-- the entry is of no job
abbrev pub IsOfNoJob : Entry → Type 0
IsOfNoJob (entry.Job e) = ⊥
IsOfNoJob e = Unit {0}

-- jobs stand as they stood after every other entry
abbrev pub JobsStay : Type 0
JobsStay = (h : List Entry) (e : Entry) → IsOfNoJob e → jobs (h ++ e ∷ []) ≡ jobs h

-- a job that is begun is of the commits declared so far, and nothing was said of it
abbrev pub JobIsBegun : Type 0
JobIsBegun =
    (h : List Entry) (lo hi : ℕ) → Legal h
    → jobs (h ++ entry.Job (event.Begin lo hi) ∷ []) ≡ jobs h ++ bisection (numbers_between lo hi (declarations h)) [] ∷ []

-- it is open, unless its commits are neighbours, which are found at once
abbrev pub BeginOpensOne : Type 0
BeginOpensOne =
    (h : List Entry) (lo hi : ℕ) → Legal h → IsSome (name_of lo h) → IsSome (name_of hi h) → lo < hi
    → open_count (jobs (h ++ entry.Job (event.Begin lo hi) ∷ []))
    ≡ open_count (jobs h) + (if nat_lt 2 (length (numbers_between lo hi (declarations h))) then 1 else 0)

-- what is said of a place moves its job on, and no other
abbrev pub JobGoesOn : Type 0
JobGoesOn =
    (h : List Entry) (e : Entry) (number : ℕ) (turn : Turn) (before after : Bisection) → said number (length h + 1) e ≡ Some turn
    → job_in number (jobs h) ≡ Some before → IsRecorded turn before after → jobs (h ++ e ∷ []) ≡ set (jobs h) (number - 1) after

-- what becomes of a job keeps the limits where there is room for a step, and no more jobs are open then than may be
abbrev pub LimitsAfterJob : Type 0
LimitsAfterJob =
    (h : List Entry) (e : JobEvent) → KeepsLimits h → length h < most limit.Steps → open_count (jobs (h ++ entry.Job e ∷ [])) ≤ most limit.Jobs
    → KeepsLimits (h ++ entry.Job e ∷ [])

-- what an entry says of the place that a job asks is a turn of it
abbrev pub IsTurnOf : ℕ → ℕ → JobEvent → Type 0
IsTurnOf number place (event.Begin lo hi) = ⊥
IsTurnOf number place (event.Answer job at status) = (job ≡ number) × (at ≡ place)
IsTurnOf number place (event.GiveUp job at) = (job ≡ number) × (at ≡ place)

-- it keeps the limits where there is room for a step: no more jobs are open then
abbrev pub LimitsAfterTurn : Type 0
LimitsAfterTurn =
    (h : List Entry) (number place : ℕ) (e : JobEvent) → KeepsLimits h → length h < most limit.Steps → asked number h ≡ Some place
    → IsTurnOf number place e → KeepsLimits (h ++ entry.Job e ∷ [])

-- the commits at the ends of a job, whatever was said of it, are declared, in their order
abbrev pub EndsAreDeclared : Type 0
EndsAreDeclared =
    (h : List Entry) (number : ℕ) (b : Bisection) → Legal h → job_in number (jobs h) ≡ Some b
    → IsSome (name_of b.low_commit h) × IsSome (name_of b.high_commit h) × (b.low_commit < b.high_commit)

-- the commits that are told of a bisection are declared: the one that an open one asks, which its list has, those between which
-- it found something, or the one at which it ended
abbrev pub IsNamed : List Entry → Bisection → Outcome → Type 0
IsNamed h b (Asks place) = IsSome b.commits × IsSome (name_of (slice_index (unwrap_or b.commits []) (unwrap_or (asked_by b.outcome) 0)) h)
IsNamed h b (Found lo hi) = IsSome (name_of b.low_commit h) × IsSome (name_of b.high_commit h)
IsNamed h b (Undecided place status) = IsSome b.end_commit × IsSome (name_of (unwrap_or b.end_commit 0) h)
IsNamed h b (Faulted place) = IsSome b.end_commit × IsSome (name_of (unwrap_or b.end_commit 0) h)

-- those of each job of a legal history are
abbrev pub JobsAreNamed : Type 0
JobsAreNamed = (h : List Entry) (number : ℕ) (b : Bisection) → Legal h → job_in number (jobs h) ≡ Some b → IsNamed h b b.outcome

-- the commits of each regression of a legal history are declared
abbrev pub RegressionsAreNamed : Type 0
RegressionsAreNamed = (h : List Entry) → Legal h → All (λ (r : Raised). IsSome (name_of r.before h) × IsSome (name_of r.after h)) (regressions h)

-- the declared numbers between two rise
abbrev pub NumbersRise : Type 0
NumbersRise = (lo hi : ℕ) (commits : List Declaration) → IsStrictlyIncreasing (numbers_between lo hi commits)

-- and are two at least where both ends are declared and apart
abbrev pub NumbersAreTwo : Type 0
NumbersAreTwo =
    (lo hi : ℕ) (commits : List Declaration) → lo < hi → IsSome (name_in lo commits) → IsSome (name_in hi commits)
    → 2 ≤ length (numbers_between lo hi commits)

-- what a bisection over n and one places found after some turns: two neighbours, of which the lower one was stated or answered
-- good and the higher one bad, within the bound of questions
pub record IsFinishedWell (n : ℕ) (ts : List Turn) (lo hi : ℕ) : Type 0 where
  pub neighbours : hi ≡ lo + 1
  pub good : (lo ≡ 0) ⊎ Contains (good_places ts) lo
  pub bad : (hi ≡ n) ⊎ Contains (bad_places ts) hi
  pub bound : 2 ^ questions_after ts ≤ 2 * n

-- each job of a history that found something finished so
abbrev pub AllFinishWell : List Entry → Type 0
AllFinishWell h =
    (k : ℕ) (b : Begun) → slice_get (begins h) k ≡ Some b → (lo hi : ℕ)
    → outcome_after (length (commits_of h b) - 1) (turns (k + 1) h) ≡ Found lo hi
    → IsFinishedWell (length (commits_of h b) - 1) (turns (k + 1) h) lo hi

-- a legal history finishes all of its jobs so
abbrev pub JobsFinishWell : Type 0
JobsFinishWell = (h : List Entry) → Legal h → AllFinishWell h
