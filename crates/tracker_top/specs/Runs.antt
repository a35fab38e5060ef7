-- How the program runs: a command of one thread, an audit, scripts that run at once, or a hunt.
use Rattle.std.specs.Prelude.{◌≡◌, ◌≢◌, ◌⊎◌, ℕ, List, length, IfSome}
use Rattle.track_outside.specs.Counts.{Rose}
use Rattle.track_outside.specs.declared.files.Files as files
use Rattle.track_outside.specs.declared.source.Source as source
use Rattle.track_outside.specs.declared.sink.Sink as sink
use Rattle.track_outside.specs.declared.keeper.Keeper as keeper
use Rattle.track_outside.specs.declared.runner.Runner as runner
use Rattle.command_words.specs.declared.command.{Command.Command, HuntPlan.HuntPlan, Command.TheVariants.{Play, Hunt, Audit}}
use Rattle.command_words.specs.{Commands.{AreNoCommand, IsSpelled}, Plans.{Files, Plan}}
use Rattle.shared_run.specs.{Crews.asked_by, Endings.{Objects, Told}}
use Rattle.tracker_top.specs.declared.status.Status.{Status, TheVariants.{BadWords, NoMemory}}
use Rattle.tracker_top.specs.{Audits.{AreFilesIn, AuditsAsDue, EndsAudit, IsToldOf}, Endings.{Ends, EndsUnbegun, IsTold, Streams}}
use Rattle.tracker_top.specs.{Hunts.{AreAsBefore, EndsHunt, HuntsAsDue}, Plays.{AreNamesIn, AreUntouched, EndsPlay, IsToldIn, PlaysAsDue}, Statuses.IsDue}

-- a command of one thread was run that opens and creates no file, or its words are none
pub record RunsAlone {F I O K : Type 0} (g : source.Ghosts I) (h : sink.Ghosts O) (k : keeper.Ghosts K)
    (words : List (List ℕ)) (before after : Streams I O K) (told_to telling : O) (files files' : F)
    (status : Status) : Type 0 where
  pub bad_words : status ≡ BadWords → AreNoCommand words
  pub untouched : status ≡ BadWords → after ≡ before
  pub same_files : files' ≡ files
  pub command : status ≢ BadWords → EndsUnbegun before after status
      ⊎ ((command : Command) × IsSpelled words command × Ends g h k before after command status)
  pub complete : IfSome (g.left before.input) (λ bytes. (due : Status)
      → IsDue words (k.kept before.keeper) bytes due → (status ≡ due) ⊎ (status ≡ NoMemory)
      ⊎ Rose (g.faults before.input) (g.faults after.input)
      ⊎ Rose (h.faults before.output) (h.faults after.output)
      ⊎ Rose (k.faults before.keeper) (k.faults after.keeper))
  pub told : IsTold h told_to telling status

-- scripts were run at once, and workers beside them, or the words are no command: as many runners
-- stand there, each asked as the plan has it
pub record RunsPlay {F I O K N : Type 0} (t : Told F I O K) (n : runner.Ghosts N)
    (words : List (List ℕ)) (before after : Objects F O K) (told_to telling : O)
    (runners runners' : List N) (status : Status) : Type 0 where
  pub bad_words : status ≡ BadWords → AreNoCommand words
  pub untouched : status ≡ BadWords → AreUntouched before after runners runners'
  pub as_many : length runners' ≡ length runners
  pub command : status ≢ BadWords
      → ((status ≡ NoMemory) × AreUntouched before after runners runners')
      ⊎ ((plan : Plan) × IsSpelled words (Play plan)
      × EndsPlay t plan (asked_by n runners runners') before after status)
  pub complete : PlaysAsDue t words before after status
  pub told : (names : List (List ℕ)) → AreNamesIn words names
      → IsToldIn t.out names told_to telling status

-- a hunt was run on its input, its output and the runners, or the words are no command: as many
-- runners stand there
pub record RunsHunt {I O N : Type 0} (g : source.Ghosts I) (h : sink.Ghosts O) (n : runner.Ghosts N)
    (words : List (List ℕ)) (old new : I) (before after : O) (told_to telling : O)
    (runners runners' : List N) (status : Status) : Type 0 where
  pub bad_words : status ≡ BadWords → AreNoCommand words
  pub untouched : status ≡ BadWords → AreAsBefore old new before after runners runners'
  pub as_many : length runners' ≡ length runners
  pub command : status ≢ BadWords
      → ((status ≡ NoMemory) × AreAsBefore old new before after runners runners')
      ⊎ ((plan : HuntPlan) × IsSpelled words (Hunt plan)
      × EndsHunt g h n plan old new before after runners runners' status)
  pub complete : HuntsAsDue g h words old new before after status
  pub told : IsTold h told_to telling status

-- an audit was made of files, or the words are no command
pub record RunsAudit {F I O P : Type 0} (g : files.Ghosts F I O) (h : sink.Ghosts P)
    (words : List (List ℕ)) (before after : F) (old new told_to telling : P) (status : Status)
    : Type 0 where
  pub bad_words : status ≡ BadWords → AreNoCommand words
  pub untouched : status ≡ BadWords → (after ≡ before) × (new ≡ old)
  pub command : status ≢ BadWords
      → ((status ≡ NoMemory) × (after ≡ before) × (new ≡ old))
      ⊎ ((named : Files) × IsSpelled words (Audit named) × EndsAudit g h named before after old new status)
  pub complete : AuditsAsDue g h words before after old new status
  pub told : (named : Files) → AreFilesIn words named → IsToldOf h named told_to telling status
