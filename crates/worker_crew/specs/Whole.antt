-- A whole shared run, by what scripts and workers ensure when they are run.
use Rattle.std.specs.{Prelude.{◌≡◌, ◌≤◌, List, ◌++◌, drop, length, map, take}, List.{AllByRecursion, AllZip}}
use Rattle.track_outside.specs.declared.runner.Runner as runner
use Rattle.history_model.specs.{Allowed.Legal, Entries.entries_of}
use Rattle.side_by_side.specs.Runs.{AllWorked}
use Rattle.track_model.specs.Tracks.{Track}
use Rattle.play_crew.specs.{Rooms.IsPassOf, Sights.{EndsWhole, Home, IsFirstOf, Sight}, Fitting.ArePlayedFrom, Gathered.AreKept, Seats.{AreDifferent, Seat}}
use Rattle.play_fits.specs.Fits.{Play}
use Rattle.play_crew.specs.Shared.{JoinsAll, SplitsAll}
use Rattle.play_crew.specs.Shared as seats
use Rattle.worker_crew.specs.{Runs.{DoesLast, IsNew, RunsPlayers, Tally, runners_by}, Seated.{AreSeated, tally_of}}
use Rattle.worker_crew.specs.Workers.{Bisects, Recomputes, Working, pass_of, workers_from}

-- what runners tell
abbrev pub tallies : {A : Type 0} → runner.Ghosts A → List A → List Tally
tallies r runners = map (tally_of r) runners

-- scripts were played at seats of a room and workers worked beside them, each that bisects with the runner in its place; their
-- passes were joined again, the room was closed, and main did what was left
pub record RunsCrew {A : Type 0} (r : runner.Ghosts A) (play : Play) (journals : List Track) (began worked ended : List A)
    : Type 0 where
  pub room : List Home
  pub different : AreDifferent room
  pub first : List Sight
  pub between : List Sight
  pub last : List Sight
  pub of_room : IsPassOf room first
  pub starts : AllZip IsFirstOf play.tracks first
  pub kept : AllByRecursion AreKept play.tracks
  pub passes : List (List Sight)
  pub of_recompute : List (List Sight)
  pub of_bisect : List (List Sight)
  pub splits : SplitsAll first (passes ++ (of_recompute ++ of_bisect)) between
  pub scripts : List Seat
  pub seated : AreSeated room passes scripts
  pub played : ArePlayedFrom room 1 play.scripts passes scripts
  pub many_recompute : length of_recompute ≡ play.recompute
  pub recomputers : List Working
  pub recomputed : AllZip Recomputes (workers_from room play.word 1 of_recompute) recomputers
  pub many_bisect : length of_bisect ≡ play.bisect
  pub enough : play.bisect ≤ length began
  pub bisectors : List Working
  pub bisected : AllWorked (Bisects r) (workers_from room play.word 1 of_bisect) (take play.bisect began) bisectors (take play.bisect worked)
  pub others : drop play.bisect worked ≡ drop play.bisect began
  pub joins : JoinsAll between (map seats.pass_of scripts ++ (map pass_of recomputers ++ map pass_of bisectors)) last
  pub whole : IsPassOf room last
  pub left : List Track
  pub closed : AllZip EndsWhole last left
  pub main : DoesLast play.recompute play.bisect play.word left journals (tallies r worked)
      (tallies r ended)
  pub open main use *
  pub legal : AllByRecursion (λ (t : Track). Legal (entries_of t.history)) journals
  pub new : AllByRecursion IsNew (tallies r began)
  pub runners : play.runners ≡ runners_by (tallies r began) (tallies r ended)

-- that is a run of players, in which main published the same
abbrev pub CrewRuns : {A : Type 0} → runner.Ghosts A → Type 0
CrewRuns {A = A} r =
    (play : Play) (journals : List Track) (began worked ended : List A) (c : RunsCrew r play journals began worked ended)
    → (run : RunsPlayers play journals) × (run.published ≡ c.published)
