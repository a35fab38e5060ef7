-- The bisections that a history begins, numbered from 1, what was said of their places, and where each stands.
use Rattle.std.specs.Prelude.{◌≡◌, ℕ, zero, suc, ◌+◌, ◌-◌, ◌<◌, Bool, ◌==◌, List, [], ◌∷◌, length, take, filter, slice_get, if◌then◌else◌, IsSome, Option, Some, None}
use Rattle.bisect_core.specs.{Bisections.{Bisection, bisection, is_open, asked_by}, Turns.{Turn, tested, given_up}}
use Rattle.history_model.specs.declared.{entries.Entry.Entry, entries.Entry.TheVariants.Job, events.JobEvent.JobEvent}
use Rattle.history_model.specs.declared.events.JobEvent.TheVariants as event
use Rattle.history_model.specs.{Commits.{declarations, name_of, numbers_between}, Entries.chosen}

-- the range of a job, with the step at which it was begun
pub record Begun : Type 0 where
  pub step : ℕ
  pub lo : ℕ
  pub hi : ℕ

abbrev pub begun : ℕ → Entry → Option Begun
begun step (Job (event.Begin lo hi)) = Some (record { step = step; lo = lo; hi = hi })
begun step e = None

abbrev pub begins : List Entry → List Begun
begins h = chosen begun h

-- what an entry says of a place of the job of this number, and all that was said
abbrev pub said : ℕ → ℕ → Entry → Option Turn
said number step (Job (event.Answer job place status)) = if job == number then Some (tested place status) else None
said number step (Job (event.GiveUp job place)) = if job == number then Some (given_up place) else None
said number step e = None

abbrev pub turns : ℕ → List Entry → List Turn
turns number h = chosen (said number) h

-- the commits of a job: those declared before it, from one number to the other, in rising order
abbrev pub commits_of : List Entry → Begun → List ℕ
commits_of h b = numbers_between b.lo b.hi (declarations (take (b.step - 1) h))

-- where the jobs stand that were begun, from this number on
abbrev pub standing_from : List Entry → ℕ → List Begun → List Bisection
standing_from h number [] = []
standing_from h number (b ∷ bs) = bisection (commits_of h b) (turns number h) ∷ standing_from h (number + 1) bs

-- where all jobs of a history stand, by number
abbrev pub jobs : List Entry → List Bisection
jobs h = standing_from h 1 (begins h)

-- the one of this number among some jobs
abbrev pub job_in : ℕ → List Bisection → Option Bisection
job_in zero js = None
job_in (suc k) js = slice_get js k

-- the place that a job asks, if it is there and open
abbrev pub place_asked : Option Bisection → Option ℕ
place_asked None = None
place_asked (Some b) = asked_by b.outcome

-- the place that the job of this number asks
abbrev pub asked : ℕ → List Entry → Option ℕ
asked number h = place_asked (job_in number (jobs h))

-- how many of some jobs are open
abbrev pub is_under_way : Bisection → Bool
is_under_way b = is_open b.outcome

abbrev pub open_count : List Bisection → ℕ
open_count js = length (filter is_under_way js)

-- a job is begun between declared commits in their order; and something is said of the place that the job asks
abbrev pub MayHappen : List Entry → JobEvent → Type 0
MayHappen h (event.Begin lo hi) = IsSome (name_of lo h) × IsSome (name_of hi h) × (lo < hi)
MayHappen h (event.Answer job place status) = asked job h ≡ Some place
MayHappen h (event.GiveUp job place) = asked job h ≡ Some place
