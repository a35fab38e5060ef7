-- The scripts of a run, from where they are opened to where all are closed again.
use Rattle.std.specs.{Prelude.{◌≡◌, ◌⊎◌, ◌<◌, ℕ, List, length, map, take, option_map, ◌++◌, Result, Ok, Err}, List.AllZip}
use Rattle.track_outside.specs.declared.files.Files as files
use Rattle.track_outside.specs.declared.source.Source as source
use Rattle.track_outside.specs.declared.sink.Sink as sink
use Rattle.script_files.specs.{declared.open.OpenScript.OpenScript, Opening.{Asks, IsOpen, calls_for}, Closing.{Closes, HaveWritten, AreApart}}
use Rattle.script_files.specs.declared.open.OpenFault.TheVariants as fault
use Rattle.script_loop.specs.declared.stop.Stop.{Stop}
use Rattle.history_model.specs.{Allowed.Legal, Entries.entries_of}
use Rattle.track_model.specs.Tracks.{Track}
use Rattle.worker_crew.specs.{Sights.{Home, Sight}, Players.{Playing, Plays, end_of, open_of, players_from}}
use Rattle.shared_run.specs.declared.stop.RunStop.{RunStop, TheVariants.{CreateFault, NoMemory, OpenFault}}

-- each script was opened and its transcript created, each was played at a seat of its own with one of these passes, and all
-- was closed
pub record Ran {F I O : Type 0} (f : files.Ghosts F I O) (i : source.Ghosts I) (o : sink.Ghosts O)
    (scripts : List (List ℕ)) (room : List Home) (passes : List (List Sight)) (old new : F)
    (ends : List (Result (Unit {0}) Stop)) : Type 0 where
  pub opened : List (OpenScript I O)
  pub are_open : AllZip (IsOpen i o (f.contents old)) scripts opened
  pub played : List (Playing I O)
  pub plays : AllZip (Plays i o) (players_from room 1 passes opened) played
  pub many : length passes ≡ length opened
  pub ended : ends ≡ map end_of played
  pub middle : F
  pub asks : Asks f scripts old middle (Ok tt)
  pub closes : Closes f i o (map open_of played) middle new
  pub written : AreApart o (map open_of played) → HaveWritten o (map open_of played) (f.contents new)

-- they weren't begun: a script can't be opened, or a transcript created, or there is no memory
abbrev pub NotBegun : {F I O : Type 0} → files.Ghosts F I O → List (List ℕ) → F → F → RunStop → Type 0
NotBegun f scripts old new OpenFault = Asks f scripts old new (Err fault.ReadFault)
NotBegun f scripts old new CreateFault = Asks f scripts old new (Err fault.WriteFault)
NotBegun f scripts old new NoMemory =
    (n : ℕ) × (n < length (calls_for scripts))
    × (f.asked new ≡ option_map (λ made. made ++ take n (calls_for scripts)) (f.asked old))
NotBegun f scripts old new why = ⊥

-- the machine has a legal history
abbrev pub HasLegalHistory : Track → Type 0
HasLegalHistory t = Legal (entries_of t.history)

-- memory was wanting before a file was opened, or not all are open
abbrev pub NotRun : {F I O : Type 0} → files.Ghosts F I O → List (List ℕ) → F → F → RunStop → Type 0
NotRun f scripts old new why =
    ((why ≡ NoMemory) × (new ≡ old)) ⊎ NotBegun f scripts old new why
