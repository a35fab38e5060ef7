-- What becomes of something that a worker says of a place of a job.
use Rattle.std.specs.Prelude.{◌≡◌, ℕ, ◌+◌, [], ◌∷◌, length, Option, Some, None}
use Rattle.metric_table.specs.declared.limits.Limit.{Limit, TheVariants.Steps}
use Rattle.bisect_core.specs.{Bisections.{Bisection, answer_to}, declared.outcome.Answered.Answered}
use Rattle.bisect_core.specs.declared.outcome.Answered.TheVariants as answered
use Rattle.history_model.specs.declared.{entries.Author.Author, entries.Entry.Entry, events.JobEvent.JobEvent, events.JobEvent.TheVariants.{Answer, GiveUp}}
use Rattle.history_model.specs.declared.entries.Entry.TheVariants as entry
use Rattle.history_model.specs.{Allowed.first_passed, Entries.entries_of, Jobs.{jobs, job_in}}
use Rattle.track_model.specs.Tracks.{Track, with_entry}
use Rattle.track_follow.specs.declared.settling.Settled.{Settled}
use Rattle.track_follow.specs.declared.settling.Settled.TheVariants as settled

-- what is said of a place: the status of its test, or that no test could be had
abbrev pub said_of : ℕ → ℕ → Option ℕ → JobEvent
said_of job place None = GiveUp job place
said_of job place (Some status) = Answer job place status

-- its entry
abbrev pub entry_said : ℕ → ℕ → Option ℕ → Entry
entry_said job place status = entry.Job (said_of job place status)

-- where it passes a limit nothing changes, else it is added
abbrev pub IsPut : Option Limit → Track → Author → Entry → Settled → Track → Type 0
IsPut (Some limit) old author e told new = (told ≡ settled.Full) × (new ≡ old)
IsPut None old author e told new = (told ≡ settled.Recorded (length (entries_of old.history) + 1))
    × (new ≡ with_entry author old e)

-- where the job doesn't take it that is told and nothing changes
abbrev pub IsTaken : Answered → Track → Author → Entry → Settled → Track → Type 0
IsTaken answered.Ok old author e told new = IsPut (first_passed (Steps ∷ []) (entries_of old.history) e) old author e told new
IsTaken (answered.NotAsked asked) old author e told new = (told ≡ settled.NotAsked asked)
    × (new ≡ old)
IsTaken (answered.Closed outcome) old author e told new = (told ≡ settled.Closed outcome)
    × (new ≡ old)

-- what becomes of it, by where the job of the number stands
pub record IsSettled (old : Track) (author : Author) (job place : ℕ) (status : Option ℕ) (told : Settled) (new : Track) : Type 0 where
  pub bisection : Bisection
  pub there : job_in job (jobs (entries_of old.history)) ≡ Some bisection
  pub taken : IsTaken (answer_to bisection.outcome place) old author (entry_said job place status) told new
