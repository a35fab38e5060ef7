-- How `play` ends, on its objects, and the line that tells its status.
use Rattle.std.specs.Prelude.{◌≡◌, ◌⊎◌, ℕ, zero, suc, List, [], ◌∷◌, ◌++◌, codes, decimal, slice_get, Option, Some, None, Result, Ok, Err, IfSome}
use Rattle.track_outside.specs.Calls.{Took, FailedIn}
use Rattle.track_outside.specs.declared.sink.Sink as sink
use Rattle.track_outside.specs.declared.runner.Runner as runner
use Rattle.command_words.specs.{declared.command.Command.TheVariants.Play, Commands.{AreNoCommand, IsSpelled}, Plans.Plan}
use Rattle.play_fits.specs.Workers.{Asked}
use Rattle.shared_run.specs.{declared.stop.RunStop.RunStop, Endings.{EndsRun, HasFailed, IsDue, Objects, Told}}
use Rattle.shared_run.specs.declared.stop.RunStop.TheVariants as run
use Rattle.tracker_top.specs.declared.status.Status.{Status}
use Rattle.tracker_top.specs.declared.status.Status.TheVariants.{Done, BadWords, ReadFault, WriteFault, StoreFault, BadStore, CutOff, NoMemory, InputTooLong, Full}
use Rattle.tracker_top.specs.{Statuses.stopped_status_of, Text.line_of}

-- ---- statuses

-- the status at which `play` ends where its run stops
abbrev pub run_status_of : RunStop → Status
run_status_of run.NoMemory = NoMemory
run_status_of run.StoreFault = StoreFault
run_status_of (run.BadStore row) = BadStore row
run_status_of (run.Full place) = Full place
run_status_of run.OpenFault = ReadFault
run_status_of run.CreateFault = WriteFault
run_status_of (run.Script number stop) = stopped_status_of number stop
run_status_of run.WriteFault = WriteFault

abbrev pub run_status : Result (Unit {0}) RunStop → Status
run_status (Ok done) = Done
run_status (Err why) = run_status_of why

-- ---- runners

-- a runner that wasn't asked yet, as far as it tells
abbrev pub IsNewRunner : {N : Type 0} → runner.Ghosts N → N → Type 0
IsNewRunner n r = IfSome (n.asked r) (λ asks. asks ≡ [])

-- ---- how it ends

-- nothing was opened, created, written, kept or started, and no runner asked
pub record AreUntouched {F O K N : Type 0} (before after : Objects F O K) (runners runners' : List N)
    : Type 0 where
  pub files : after.files ≡ before.files
  pub out : after.out ≡ before.out
  pub keeper : after.keeper ≡ before.keeper
  pub unasked : runners' ≡ runners

-- the shared run of a plan ended so on the objects, and this is its status
pub record EndsPlay {F I O K : Type 0} (t : Told F I O K) (plan : Plan) (asked : List Asked)
    (before after : Objects F O K) (status : Status) : Type 0 where
  pub result : Result (Unit {0}) RunStop
  pub told : status ≡ run_status result
  pub ends : EndsRun t plan asked before after result

-- ---- what is due

-- the words, the rows of the store, where the keeper tells them, and the files' bytes show this
-- status of `play`: the words are no command, or a plan whose run is due to end so
abbrev pub IsPlayDue : {F I O K : Type 0} → Told F I O K → List (List ℕ) → Objects F O K → Status
    → Type 0
IsPlayDue t words before status =
    ((status ≡ BadWords) × AreNoCommand words)
    ⊎ ((plan : Plan) × IsSpelled words (Play plan)
    × ((result : Result (Unit {0}) RunStop) × (status ≡ run_status result)
    × IsDue t plan (t.keeper.kept before.keeper) before.files result))

-- it ended as is due, or memory was wanting, or an object failed
abbrev pub PlaysAsDue : {F I O K : Type 0} → Told F I O K → List (List ℕ) → Objects F O K
    → Objects F O K → Status → Type 0
PlaysAsDue t words before after status =
    (due : Status) → IsPlayDue t words before due
    → (status ≡ due) ⊎ (status ≡ NoMemory) ⊎ HasFailed t before after

-- ---- its line

-- the name of the script of a number, from 1
abbrev pub script_name : List (List ℕ) → ℕ → Option (List ℕ)
script_name names zero = None
script_name names (suc before) = slice_get names before

-- where a script is cut off, or what is too long: standard input has no name
abbrev pub cut_line : Option (List ℕ) → ℕ → List ℕ
cut_line None offset = line_of (CutOff 0 offset)
cut_line (Some name) offset =
    codes "cut off: " ++ (name ++ (codes " at " ++ (decimal offset ++ 10 ∷ [])))

abbrev pub long_line : Option (List ℕ) → List ℕ
long_line None = line_of (InputTooLong 0)
long_line (Some name) = codes "input too long: " ++ (name ++ 10 ∷ [])

-- the line that tells a status, where the scripts have these names
abbrev pub line_in : List (List ℕ) → Status → List ℕ
line_in names (CutOff number offset) = cut_line (script_name names number) offset
line_in names (InputTooLong number) = long_line (script_name names number)
line_in names status = line_of status

-- these are the scripts' names, where the words are `play` with a plan
abbrev pub AreNamesIn : List (List ℕ) → List (List ℕ) → Type 0
AreNamesIn words names = (plan : Plan) → IsSpelled words (Play plan) → names ≡ plan.scripts

-- the status' line was written, or a first part of it where that failed
abbrev pub IsToldIn : {O : Type 0} → sink.Ghosts O → List (List ℕ) → O → O → Status → Type 0
IsToldIn o names old new status =
    Took o old new (line_in names status) ⊎ FailedIn o old new (line_in names status)
