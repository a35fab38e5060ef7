-- How a shared run ends, on its objects: before its scripts began, or behind them.
use Rattle.std.specs.Prelude.{◌≡◌, ◌≢◌, ◌⊎◌, ℕ, ◌+◌, ◌-◌, ◌^◌, ◌<◌, ◌≤◌, Bool, true, not, List, [], ◌++◌, length, map, zip, count_by, slice_get, Option, Some, None, option_map, option_and_then, unwrap_or, IsSome, Result, Ok, Err}
use Rattle.std.specs.List.{AllByRecursion, AllZip}
use Rattle.track_outside.specs.{Calls.{Took, FailedIn, TookPart}, Counts.Rose, Named.{Call, bytes_at}}
use Rattle.track_outside.specs.declared.files.Files as files
use Rattle.track_outside.specs.declared.source.Source as source
use Rattle.track_outside.specs.declared.sink.Sink as sink
use Rattle.track_outside.specs.declared.keeper.Keeper as keeper
use Rattle.command_words.specs.Plans.{Plan, transcript_of}
use Rattle.metric_table.specs.{Limits.most, declared.limits.Limit.TheVariants.Machines}
use Rattle.track_model.specs.Tracks.{Track}
use Rattle.keep_rows.specs.Loading.{Stored, nothing_stored, LeadTo, IsFirstBad}
use Rattle.journal_text.specs.Journals.{journals_text}
use Rattle.request_words.specs.Bodies.{Item}
use Rattle.request_reader.specs.Scripts.{Ending, end, cut_off, unfinished, IsScript}
use Rattle.play_fits.specs.{Fits.{Play, Played, Fits}, Quiet.IsQuiet, Workers.Asked}
use Rattle.worker_crew.specs.Fitting.{IsUnasked}
use Rattle.script_files.specs.{declared.open.OpenScript.OpenScript, Opening.{Asks, IsOpen, calls_for}, Closing.Closes}
use Rattle.script_loop.specs.declared.stop.Stop.{Stop}
use Rattle.script_loop.specs.declared.stop.Stop.TheVariants as script
use Rattle.shared_run.specs.declared.stop.RunStop.{RunStop, TheVariants.{NoMemory, StoreFault, BadStore, Full, Script, WriteFault}}
use Rattle.shared_run.specs.{Beginnings.{Begins, Keeps, NoneCause, StartsAtMost, WasStarted}, Lists.IsFullAt, Ran.NotBegun}

-- the objects of a run, beside its runners
pub record Objects (F O K : Type 0) : Type 0 where
  pub files : F
  pub out : O
  pub keeper : K

-- what they tell
pub record Told (F I O K : Type 0) : Type 1 where
  pub files : files.Ghosts F I O
  pub input : source.Ghosts I
  pub out : sink.Ghosts O
  pub keeper : keeper.Ghosts K

-- the first bad row of a store, where one is named and its rows are told
abbrev pub IsBadStore : (store : Option (List ℕ)) → Option (List (List ℕ)) → ℕ → Type 0
IsBadStore None rows row = ⊥
IsBadStore (Some name) None row = ⊥
IsBadStore (Some name) (Some told) row = IsFirstBad told row

-- what a store has: nothing where none is named, else the machines and the version that its rows lead
-- to, where they are told
abbrev pub StoreGives : (store : Option (List ℕ)) → Option (List (List ℕ)) → Stored → Type 0
StoreGives None rows stored = stored ≡ nothing_stored
StoreGives (Some name) None stored = ⊥
StoreGives (Some name) (Some told) stored = LeadTo told stored

module _ {F I O K : Type 0} (t : Told F I O K) (plan : Plan) where
  -- ---- the files

  -- these calls were made
  abbrev pub Made : F → F → List Call → Type 0
  Made before after calls =
      t.files.asked after ≡ option_map (λ made. made ++ calls) (t.files.asked before)

  -- the bytes of a name, where the files tell them
  abbrev pub bytes_in : F → List ℕ → Option (List ℕ)
  bytes_in f name = option_and_then (bytes_at name) (t.files.contents f)

  -- the bytes of the script that stands at this place
  abbrev pub IsBytesOf : F → ℕ → List ℕ → Type 0
  IsBytesOf f place bytes =
      (name : List ℕ) × (slice_get plan.scripts place ≡ Some name)
      × (bytes_in f name ≡ Some bytes)

  -- the same script and transcript, whatever was read and written of them
  pub record IsSameFile (before after : OpenScript I O) : Type 0 where
    pub named : t.out.name after.output ≡ t.out.name before.output
    pub reads : t.input.faults before.input ≤ t.input.faults after.input

  -- each script was opened and its transcript created, and when all had ended each of them was closed
  pub record AreClosed (before after : F) : Type 0 where
    pub opened : List (OpenScript I O)
    pub are_open : AllZip (IsOpen t.input t.out (t.files.contents before)) plan.scripts opened
    pub between : F
    pub opens : Asks t.files plan.scripts before between (Ok tt)
    pub left : List (OpenScript I O)
    pub same : AllZip IsSameFile opened left
    pub closes : Closes t.files t.input t.out left between after

  -- ---- what was run

  -- a script and its transcript, as the files tell them before and after, and whether it was
  -- answered in full
  abbrev pub played : F → F → List ℕ × Bool → Played
  played before after p = record {
    script = bytes_in before p.0;
    transcript = bytes_in after (transcript_of p.0);
    full = p.1;
  }

  -- on these machines, with these runners
  abbrev pub run_of : List Track → List Bool → List Asked → F → F → Play
  run_of tracks fulls asked before after = record {
    tracks = tracks;
    recompute = plan.recompute;
    bisect = plan.bisect;
    word = unwrap_or plan.test [];
    scripts = map (played before after) (zip plan.scripts fulls);
    runners = asked;
  }

  -- ---- before the scripts began

  -- why the run ended early, and which calls were made by then: there are no machines to begin with,
  -- or not all scripts and transcripts are open
  abbrev pub EarlyCause : Objects F O K → Objects F O K → RunStop → Type 0
  EarlyCause before after why =
      (NoneCause t.keeper plan before.keeper after.keeper why × (after.files ≡ before.files))
      ⊎ NotBegun t.files plan.scripts before.files after.files why

  -- nothing was written, appended or asked
  pub record EndsEarly (asked : List Asked) (before after : Objects F O K) (why : RunStop)
      : Type 0 where
    pub cause : EarlyCause before after why
    pub unwritten : after.out ≡ before.out
    pub rows : t.keeper.kept after.keeper ≡ t.keeper.kept before.keeper
    pub started : StartsAtMost t.keeper plan.store before.keeper after.keeper why
    pub unasked : AllByRecursion IsUnasked asked

  -- ---- behind the scripts

  -- the bytes of this script are one that ends so
  abbrev pub EndsSo : F → ℕ → Ending → Type 0
  EndsSo f place ending =
      (bytes : List ℕ) → IsBytesOf f place bytes → (items : List Item) × IsScript bytes items ending

  -- why a script stopped
  abbrev pub ScriptCause : Objects F O K → Objects F O K → ℕ → Stop → Type 0
  ScriptCause before after place script.ReadFault =
      Rose (t.files.read_faults before.files) (t.files.read_faults after.files)
  ScriptCause before after place script.WriteFault =
      Rose (t.files.write_faults before.files) (t.files.write_faults after.files)
  ScriptCause before after place (script.CutOff offset) =
      EndsSo before.files place (cut_off offset)
  ScriptCause before after place script.InputTooLong = EndsSo before.files place unfinished
  ScriptCause before after place script.NoMemory = ⊥

  -- why the run ends so, behind its scripts
  abbrev pub LateCause : Objects F O K → Objects F O K → Result (Unit {0}) RunStop → Type 0
  LateCause before after (Ok done) =
      (place : ℕ) → place < length plan.scripts → EndsSo before.files place end
  LateCause before after (Err NoMemory) = Unit {0}
  LateCause before after (Err (Script number stop)) =
      (place : ℕ) × (number ≡ place + 1) × (place < length plan.scripts)
      × ScriptCause before after place stop
  LateCause before after (Err WriteFault) = Rose (t.out.faults before.out) (t.out.faults after.out)
  LateCause before after (Err StoreFault) =
      IsSome plan.store × Rose (t.keeper.faults before.keeper) (t.keeper.faults after.keeper)
  LateCause before after (Err why) = ⊥

  -- so many scripts, the first ones, end well and were answered in full
  abbrev pub WereWell : F → List Bool → ℕ → Type 0
  WereWell f fulls many =
      (place : ℕ) → place < many → EndsSo f place end × (slice_get fulls place ≡ Some true)

  -- so did all before the one whose stop decides, or all where no stop of a script does
  abbrev pub IsFirstStopped : F → List Bool → Result (Unit {0}) RunStop → Type 0
  IsFirstStopped f fulls (Ok done) = WereWell f fulls (length plan.scripts)
  IsFirstStopped f fulls (Err NoMemory) = Unit {0}
  IsFirstStopped f fulls (Err (Script number stop)) =
      (place : ℕ) → number ≡ place + 1 → WereWell f fulls place
  IsFirstStopped f fulls (Err why) = WereWell f fulls (length plan.scripts)

  -- what the output took of the journals' text: all of it, or a first part where it failed or memory
  -- was wanting
  abbrev pub Writes : List Track → O → O → Result (Unit {0}) RunStop → Type 0
  Writes journals before after (Ok done) = Took t.out before after (journals_text journals)
  Writes journals before after (Err NoMemory) = TookPart t.out before after (journals_text journals)
  Writes journals before after (Err StoreFault) = Took t.out before after (journals_text journals)
  Writes journals before after (Err WriteFault) = FailedIn t.out before after (journals_text journals)
  Writes journals before after (Err why) =
      Took t.out before after (journals_text journals)
      ⊎ FailedIn t.out before after (journals_text journals)

  -- how many scripts weren't answered in full
  abbrev pub unanswered : List Bool → ℕ
  unanswered fulls = count_by not fulls

  -- they are at most as many as the two counts of the files rose together, unless one stands at its
  -- last value
  abbrev pub AreFaults : ℕ → F → F → Type 0
  AreFaults n before after =
      (n + (t.files.read_faults before + t.files.write_faults before)
      ≤ t.files.read_faults after + t.files.write_faults after)
      ⊎ (2 ^ 64 - 1 ≤ t.files.read_faults after) ⊎ (2 ^ 64 - 1 ≤ t.files.write_faults after)

  -- the scripts ran, and there are journals that fit what became of all objects
  pub record EndsLate (asked : List Asked) (before after : Objects F O K)
      (result : Result (Unit {0}) RunStop) : Type 0 where
    pub tracks : List Track
    pub version : ℕ
    pub begins : Begins t.keeper plan before.keeper (record { machines = tracks; version = version })
    pub few : length tracks ≤ most Machines
    pub calls : Made before.files after.files (calls_for plan.scripts)
    pub closed : AreClosed before.files after.files
    pub fulls : List Bool
    pub each : length fulls ≡ length plan.scripts
    pub journals : List Track
    pub fits : Fits (run_of tracks fulls asked before.files after.files) journals
    pub quiet : result ≢ Err NoMemory → IsQuiet plan.recompute plan.bisect journals
    pub wrote : Writes journals before.out after.out result
    pub in_full : result ≡ Ok tt → unanswered fulls ≡ 0
    pub faults : result ≢ Err NoMemory → AreFaults (unanswered fulls) before.files after.files
    pub cause : LateCause before after result
    pub first : IsFirstStopped before.files fulls result
    pub started : WasStarted t.keeper plan.store before.keeper after.keeper
    pub keeps : Keeps t.keeper plan version journals before.keeper after.keeper result

  -- a shared run, of which the runners tell this
  abbrev pub EndsRun : List Asked → Objects F O K → Objects F O K → Result (Unit {0}) RunStop
      → Type 0
  EndsRun asked before after (Ok done) = EndsLate asked before after (Ok tt)
  EndsRun asked before after (Err why) =
      EndsEarly asked before after why ⊎ EndsLate asked before after (Err why)

  -- ---- what is due

  -- the bytes of this script are told, and are one that ends so
  abbrev pub HasEnding : F → ℕ → Ending → Type 0
  HasEnding f place ending =
      (bytes : List ℕ) × IsBytesOf f place bytes × ((items : List Item) × IsScript bytes items ending)

  -- the first script, behind so many that end well, ends otherwise
  pub record IsFirstBadEnd (f : F) (place : ℕ) (ending : Ending) : Type 0 where
    pub here : HasEnding f place ending
    pub bad : ending ≢ end
    pub well : (k : ℕ) → k < place → HasEnding f k end

  -- the stop at such an ending
  abbrev pub stop_at : ℕ → Ending → Result (Unit {0}) RunStop
  stop_at place end = Ok tt
  stop_at place (cut_off offset) = Err (Script (place + 1) (script.CutOff offset))
  stop_at place unfinished = Err (Script (place + 1) script.InputTooLong)

  -- what the scripts' bytes show: all end well, or the first that doesn't decides
  abbrev pub ScriptsShow : F → Result (Unit {0}) RunStop → Type 0
  ScriptsShow f result =
      ((result ≡ Ok tt) × ((k : ℕ) → k < length plan.scripts → HasEnding f k end))
      ⊎ ((place : ℕ) × (ending : Ending) × IsFirstBadEnd f place ending
      × (result ≡ stop_at place ending))

  -- what the machines of the store and of the list show, and then the scripts' bytes
  abbrev pub MachinesShow : F → List Track → Result (Unit {0}) RunStop → Type 0
  MachinesShow f stored result =
      ((place : ℕ) × IsFullAt stored plan.machines place × (result ≡ Err (Full place)))
      ⊎ (((place : ℕ) → IsFullAt stored plan.machines place → ⊥) × ScriptsShow f result)

  -- the rows of the store, where the keeper tells them, the list and the scripts' bytes show how a
  -- run ends: unless memory is wanting or an object fails it ends so
  abbrev pub IsDue : Option (List (List ℕ)) → F → Result (Unit {0}) RunStop → Type 0
  IsDue rows f result =
      ((row : ℕ) × IsBadStore plan.store rows row × (result ≡ Err (BadStore row)))
      ⊎ ((stored : Stored) × StoreGives plan.store rows stored × MachinesShow f stored.machines result)

-- one of the objects failed meanwhile
abbrev pub HasFailed : {F I O K : Type 0} → Told F I O K → Objects F O K → Objects F O K → Type 0
HasFailed t before after =
    Rose (t.files.read_faults before.files) (t.files.read_faults after.files)
    ⊎ Rose (t.files.write_faults before.files) (t.files.write_faults after.files)
    ⊎ Rose (t.out.faults before.out) (t.out.faults after.out)
    ⊎ Rose (t.keeper.faults before.keeper) (t.keeper.faults after.keeper)

-- a run of this plan ended as is due, or memory was wanting, or an object failed
abbrev pub EndsAsDue : {F I O K : Type 0} → Told F I O K → Plan → Objects F O K → Objects F O K
    → Result (Unit {0}) RunStop → Type 0
EndsAsDue t plan before after result =
    (due : Result (Unit {0}) RunStop)
    → IsDue t plan (t.keeper.kept before.keeper) before.files due
    → (result ≡ due) ⊎ (result ≡ Err NoMemory) ⊎ HasFailed t before after
