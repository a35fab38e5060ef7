-- What is followed of a machine, as it follows from its history.
use Rattle.std.specs.Prelude.{◌≡◌, ℕ, ◌≤◌, true, if◌then◌else◌, List, [], ◌∷◌, ◌++◌, length, Option, Some, None}
use Rattle.bisect_core.specs.{Bisections.{Bisection, bisection}, Turns.{tested, given_up}}
use Rattle.regression_state.specs.declared.states.State.{State, TheVariants.Detected}
use Rattle.history_model.specs.declared.{entries.Declaration.Declaration, entries.Entry.Entry, events.JobEvent.JobEvent}
use Rattle.history_model.specs.declared.entries.Entry.TheVariants as entry
use Rattle.history_model.specs.declared.events.{JobEvent.TheVariants.{Begin, Answer, GiveUp}, RegressionEvent.RegressionEvent}
use Rattle.history_model.specs.{declared.events.RegressionEvent.TheVariants.{Raise, Move}, Commits.numbers_between, Jobs.{jobs, job_in, place_asked}}
use Rattle.history_model.specs.Regressions.{regressions, state_of, is_number}
use Rattle.follow_index.specs.{declared.regressions.Followed.Followed, Followed.followed, Numbered.{IsMovedTo, GoesOn}}
use Rattle.machine_state.specs.declared.following.Following.{Following}

-- the regressions and the jobs are those of the history
pub record AreFollowed (h : List Entry) (f : Following) : Type 0 where
  pub regressions_are : f.regressions ≡ followed h
  pub jobs_are : f.jobs ≡ jobs h

-- the state of a regression, where it is there
abbrev pub state_if : List Entry → ℕ → Option State
state_if h number = if is_number (length (regressions h)) number then Some (state_of number h) else None

-- what moves is there
abbrev pub RegressionFits : RegressionEvent → List Followed → Type 0
RegressionFits (Raise r) rs = Unit {0}
RegressionFits (Move number state) rs = is_number (length rs) number ≡ true

-- the regressions after what becomes of one
abbrev pub RegressionHappens : RegressionEvent → List Followed → List Followed → Type 0
RegressionHappens (Raise r) old new = new ≡ old ++ record { raised = r; state = Detected } ∷ []
RegressionHappens (Move number state) old new = IsMovedTo number state old new

-- a job is begun of two commits at least, and what is said is said of the place that is asked
abbrev pub JobFits : List Declaration → JobEvent → List Bisection → Type 0
JobFits commits (Begin lo hi) js = 2 ≤ length (numbers_between lo hi commits)
JobFits commits (Answer number place status) js = place_asked (job_in number js) ≡ Some place
JobFits commits (GiveUp number place) js = place_asked (job_in number js) ≡ Some place

-- the bisections after what becomes of one
abbrev pub JobHappens : List Declaration → JobEvent → List Bisection → List Bisection → Type 0
JobHappens commits (Begin lo hi) old new = new ≡ old ++ bisection (numbers_between lo hi commits) [] ∷ []
JobHappens commits (Answer number place status) old new = GoesOn number (tested place status) old new
JobHappens commits (GiveUp number place) old new = GoesOn number (given_up place) old new

-- what is followed takes the entry in
abbrev pub IsFollowable : List Declaration → Following → Entry → Type 0
IsFollowable commits f (entry.Regression event) = RegressionFits event f.regressions
IsFollowable commits f (entry.Job event) = JobFits commits event f.jobs
IsFollowable commits f e = Unit {0}

-- what is followed after the entry
abbrev pub IsFollowed : List Declaration → Entry → Following → Following → Type 0
IsFollowed commits (entry.Regression event) old new = RegressionHappens event old.regressions new.regressions × (new.jobs ≡ old.jobs)
IsFollowed commits (entry.Job event) old new = (new.regressions ≡ old.regressions) × JobHappens commits event old.jobs new.jobs
IsFollowed commits e old new = new ≡ old
