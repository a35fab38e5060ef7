-- The questions of open jobs, and what becomes of what is said of them.
use Rattle.std.specs.{Prelude.{◌≡◌, ◌≤◌, ℕ, Bool, true, false, not, ◌==◌, List, [], ◌∷◌, ◌++◌, filter, Option, Some, None}, List.list_any}
use Rattle.bisect_core.specs.Bisections.{Bisection, asked_by}
use Rattle.history_model.specs.{declared.entries.Author.Author, declared.entries.Entry.Entry, Jobs.{asked, job_in, jobs}}
use Rattle.track_step.specs.{Settling.IsSettled, Settled.Settled}
use Rattle.track_step.specs.Settled.TheVariants as settled
use Rattle.track_model.specs.Following.{asked_commit, named_by}
use Rattle.track_state.specs.{declared.questions.Question.Question, Work.{Work, ClaimsStay, IsSame, history_of}}

-- an open job asks this place of its list, where this commit stands
pub record IsQuestion (h : List Entry) (q : Question) : Type 0 where
  pub bisection : Bisection
  pub there : job_in q.job (jobs h) ≡ Some bisection
  pub asks : asked_by bisection.outcome ≡ Some q.place
  pub commit : q.commit ≡ named_by h (asked_commit bisection)

-- a job is claimed
abbrev pub is_claimed : List ℕ → ℕ → Bool
is_claimed claimed job = list_any (λ (n : ℕ). n == job) claimed

-- it is the question of the open job of the smallest number that isn't claimed
pub record IsFirstQuestion (h : List Entry) (claimed : List ℕ) (q : Question) : Type 0 where
  pub question : IsQuestion h q
  pub free : is_claimed claimed q.job ≡ false
  pub first : (job place : ℕ) → asked job h ≡ Some place → is_claimed claimed job ≡ false
      → q.job ≤ job

-- each open job is claimed
abbrev pub NoneIsAsked : List Entry → List ℕ → Type 0
NoneIsAsked h claimed = (job place : ℕ) → asked job h ≡ Some place → is_claimed claimed job ≡ true

-- its job is claimed
pub record TakesQuestion (old : Work) (q : Question) (new : Work) : Type 0 where
  pub first : IsFirstQuestion (history_of old) old.jobs q
  pub track : new.track ≡ old.track
  pub claims : ClaimsStay old new
  pub jobs : new.jobs ≡ old.jobs ++ q.job ∷ []

-- there is none exactly where each open job is claimed
abbrev pub TakesNext : Work → Option Question → Work → Type 0
TakesNext old (Some q) new = TakesQuestion old q new
TakesNext old None new = NoneIsAsked (history_of old) old.jobs × IsSame old new

-- the claim on a job ends, unless there was no room
abbrev pub jobs_after : Settled → ℕ → List ℕ → List ℕ
jobs_after (settled.Recorded step) job claimed = filter (λ (n : ℕ). not (n == job)) claimed
jobs_after (settled.NotAsked place) job claimed = filter (λ (n : ℕ). not (n == job)) claimed
jobs_after (settled.Closed outcome) job claimed = filter (λ (n : ℕ). not (n == job)) claimed
jobs_after settled.Full job claimed = claimed

-- what becomes of what is said of a question, and of the claim on its job
pub record Settles (old : Work) (author : Author) (q : Question) (status : Option ℕ) (told : Settled) (new : Work) : Type 0 where
  pub track : IsSettled old.track author q.job q.place status told new.track
  pub claims : ClaimsStay old new
  pub jobs : new.jobs ≡ jobs_after told q.job old.jobs
