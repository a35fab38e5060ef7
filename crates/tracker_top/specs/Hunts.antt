-- How `hunt` ends, on its objects, and which status is due.
use Rattle.std.specs.Prelude.{◌≡◌, ◌⊎◌, ℕ, List, length, nat_lt, if◌then◌else◌, IfSome}
use Rattle.track_outside.specs.Counts.{Rose}
use Rattle.track_outside.specs.declared.source.Source as source
use Rattle.track_outside.specs.declared.sink.Sink as sink
use Rattle.track_outside.specs.declared.runner.Runner as runner
use Rattle.line_pieces.specs.declared.stop.Stop.{Stop}
use Rattle.commit_lines.specs.{Reading.AreNamesOf, Stops.BytesShow}
use Rattle.hunt_command.specs.{Endings.{EndsInput as LeavesInput, EndsHunt as PutsHunt}, declared.end.HuntEnd.HuntEnd}
use Rattle.hunt_command.specs.declared.end.HuntEnd.TheVariants as hunt
use Rattle.command_words.specs.{declared.command.HuntPlan.HuntPlan, declared.command.Command.TheVariants.Hunt, Commands.{AreNoCommand, IsSpelled}}
use Rattle.tracker_top.specs.declared.status.Status.{Status, TheVariants.{Done, BadWords, WriteFault, NoMemory, TooFew}}
use Rattle.tracker_top.specs.Statuses.{status_of}

-- the status at which `hunt` ends so
abbrev pub hunt_status_of : HuntEnd → Status
hunt_status_of hunt.Done = Done
hunt_status_of (hunt.Stopped stop) = status_of stop
hunt_status_of (hunt.TooFew count) = TooFew count
hunt_status_of hunt.WriteFault = WriteFault

-- the input, the output and the runners, at this status of `hunt`: why it ended, what the input
-- showed, and what was asked and written
pub record EndsHunt {I O N : Type 0} (g : source.Ghosts I) (h : sink.Ghosts O) (n : runner.Ghosts N)
    (plan : HuntPlan) (old new : I) (before after : O) (runners runners' : List N) (status : Status)
    : Type 0 where
  pub why : HuntEnd
  pub told : status ≡ hunt_status_of why
  pub input : LeavesInput g old new why
  pub output : PutsHunt h n (g.left old) plan.test plan.width before after runners runners' why

-- nothing was read, written or asked
pub record AreAsBefore {I O N : Type 0} (old new : I) (before after : O) (runners runners' : List N)
    : Type 0 where
  pub unread : new ≡ old
  pub unwritten : after ≡ before
  pub unasked : runners' ≡ runners

-- ---- what is due

-- the status that so many names show: fewer than two are too few
abbrev pub counted_status : ℕ → Status
counted_status count = if nat_lt count 2 then TooFew count else Done

-- the bytes show this status of `hunt`: they have names, or show the stop that it is the status of;
-- they never show a fault or want of memory
abbrev pub HuntShows : List ℕ → Status → Type 0
HuntShows bytes status =
    ((names : List (List ℕ)) × AreNamesOf bytes names × (status ≡ counted_status (length names)))
    ⊎ ((stop : Stop) × (status ≡ status_of stop) × BytesShow bytes stop)

-- the words and the bytes show this status: the words are no command, or a hunt of which the bytes
-- show it
abbrev pub IsHuntDue : List (List ℕ) → List ℕ → Status → Type 0
IsHuntDue words bytes status =
    ((status ≡ BadWords) × AreNoCommand words)
    ⊎ ((plan : HuntPlan) × IsSpelled words (Hunt plan) × HuntShows bytes status)

-- it ended as is due, where the input tells its bytes, or memory was wanting, or an object failed
abbrev pub HuntsAsDue : {I O : Type 0} → source.Ghosts I → sink.Ghosts O → List (List ℕ) → I → I → O
    → O → Status → Type 0
HuntsAsDue g h words old new before after status = IfSome (g.left old) (λ bytes. (due : Status)
    → IsHuntDue words bytes due → (status ≡ due) ⊎ (status ≡ NoMemory)
    ⊎ Rose (g.faults old) (g.faults new) ⊎ Rose (h.faults before) (h.faults after))
