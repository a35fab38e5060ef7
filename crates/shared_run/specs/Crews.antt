-- The scripts and the workers of a run, from the first pass before they are seated to the machines that main leaves.
use Rattle.std.specs.{Prelude.{◌≡◌, ℕ, ◌≤◌, Bool, true, List, [], ◌++◌, length, map, take, drop, unwrap_or, Result}, List.{AllByRecursion, AllZip}}
use Rattle.track_outside.specs.declared.files.Files as files
use Rattle.track_outside.specs.declared.source.Source as source
use Rattle.track_outside.specs.declared.sink.Sink as sink
use Rattle.track_outside.specs.declared.runner.Runner as runner
use Rattle.command_words.specs.Plans.{Plan}
use Rattle.script_loop.specs.declared.stop.Stop.{Stop}
use Rattle.side_by_side.specs.Runs.{AllWorked}
use Rattle.track_model.specs.Tracks.{Track}
use Rattle.worker_crew.specs.{Rooms.IsPassOf, Sights.{EndsWhole, Home, IsFirstOf, Sight}, Shared.{JoinsAll, SplitsAll}, Runs.{DoesLast, IsNew, runners_by}}
use Rattle.play_fits.specs.Workers.{Asked}
use Rattle.worker_crew.specs.Players as players
use Rattle.worker_crew.specs.{Last.{HasQuietJobs, HasQuietSeries}, Whole.tallies, Workers.{Bisects, Recomputes, Working, workers_from}}
use Rattle.worker_crew.specs.Workers as workers
use Rattle.shared_run.specs.Ran.{HasLegalHistory, Ran}

-- the word of a plan's test
abbrev pub word_of : Plan → List ℕ
word_of plan = unwrap_or plan.test []

-- ---- runners

-- none of them was asked yet, as far as they tell
abbrev pub AreNew : {A : Type 0} → runner.Ghosts A → List A → Type 0
AreNew r runners = AllByRecursion IsNew (tallies r runners)

-- what they tell of a run: their asks, and their counts before and after it
abbrev pub asked_by : {A : Type 0} → runner.Ghosts A → (before after : List A) → List Asked
asked_by r before after = runners_by (tallies r before) (tallies r after)

-- ---- passes

-- so many passes, all of that room
pub record AreSo (room : List Home) (count : ℕ) (passes : List (List Sight)) : Type 0 where
  pub of_room : AllByRecursion (IsPassOf room) passes
  pub many : length passes ≡ count

-- passes for scripts and for workers of each kind were split off
pub record SplitsFor (plan : Plan) (room : List Home) (first last : List Sight)
    (passes of_recompute of_bisect : List (List Sight)) : Type 0 where
  pub splits : SplitsAll first (passes ++ (of_recompute ++ of_bisect)) last
  pub of_scripts : AreSo room (length plan.scripts) passes
  pub recomputing : AreSo room plan.recompute of_recompute
  pub bisecting : AreSo room plan.bisect of_bisect

-- ---- at the room

-- scripts were played, and beside them each worker worked at a seat of its own, those that bisect with the runners in their
-- places; the passes of all were joined again
pub record RanCrew {F I O A : Type 0} (f : files.Ghosts F I O) (i : source.Ghosts I) (o : sink.Ghosts O)
    (r : runner.Ghosts A) (plan : Plan) (room : List Home) (first last : List Sight) (old new : F)
    (began worked : List A) (ends : List (Result (Unit {0}) Stop)) : Type 0 where
  pub passes : List (List Sight)
  pub of_recompute : List (List Sight)
  pub of_bisect : List (List Sight)
  pub between : List Sight
  pub split : SplitsFor plan room first between passes of_recompute of_bisect
  pub scripts : Ran f i o plan.scripts room passes old new ends
  pub recomputers : List Working
  pub recomputed : AllZip Recomputes (workers_from room (word_of plan) 1 of_recompute) recomputers
  pub bisectors : List Working
  pub bisected : AllWorked (Bisects r) (workers_from room (word_of plan) 1 of_bisect)
      (take plan.bisect began) bisectors (take plan.bisect worked)
  pub others : drop plan.bisect worked ≡ drop plan.bisect began
  pub joins : JoinsAll between (map players.pass_of scripts.played
      ++ (map workers.pass_of recomputers ++ map workers.pass_of bisectors)) last

-- ---- behind it

-- main did what the workers left: all of it, or as much as there was memory for
pub record Finishes {A : Type 0} (r : runner.Ghosts A) (plan : Plan) (left journals : List Track)
    (worked ended : List A) (full : Bool) : Type 0 where
  pub main : DoesLast plan.recompute plan.bisect (word_of plan) left journals (tallies r worked)
      (tallies r ended)
  pub open main use *
  pub series : full ≡ true → 1 ≤ plan.recompute → AllByRecursion HasQuietSeries published
  pub jobs : full ≡ true → 1 ≤ plan.bisect → AllByRecursion HasQuietJobs journals

-- a room was made of these machines, scripts and workers were run in it, and main left these journals
pub record RanIn {F I O A : Type 0} (f : files.Ghosts F I O) (i : source.Ghosts I) (o : sink.Ghosts O)
    (r : runner.Ghosts A) (plan : Plan) (tracks : List Track) (old new : F) (began ended : List A)
    (ends : List (Result (Unit {0}) Stop)) (journals : List Track) (full : Bool) : Type 0 where
  pub room : List Home
  pub first : List Sight
  pub last : List Sight
  pub of_room : IsPassOf room first
  pub starts : AllZip IsFirstOf tracks first
  pub worked : List A
  pub ran : RanCrew f i o r plan room first last old new began worked ends
  pub whole : IsPassOf room last
  pub left : List Track
  pub closed : AllZip EndsWhole last left
  pub finishes : Finishes r plan left journals worked ended full
  pub legal : AllByRecursion HasLegalHistory journals
