-- What holds of a whole shared run.
use Rattle.std.specs.{Prelude.{◌≤◌, List}, List.AllByRecursion}
use Rattle.history_model.specs.Entries.{entries_of}
use Rattle.track_model.specs.Tracks.{Track}
use Rattle.worker_model.specs.Quiet.{JobsAreQuiet, SeriesAreQuiet}
use Rattle.play_fits.specs.{Fits.{Fits, Play}, Quiet.IsQuiet}
use Rattle.worker_crew.specs.Runs.{RunsPlayers}

-- it fits the journals of the machines as it leaves them
abbrev pub RunOfPlayersFits : Type 0
RunOfPlayersFits = (play : Play) (journals : List Track) → RunsPlayers play journals → Fits play journals

-- main finished its last recomputing, and its last bisecting, of all machines
pub record FinishesLast (play : Play) (published journals : List Track) : Type 0 where
  pub series : 1 ≤ play.recompute
      → AllByRecursion (λ (t : Track). SeriesAreQuiet (entries_of t.history)) published
  pub jobs : 1 ≤ play.bisect
      → AllByRecursion (λ (t : Track). JobsAreQuiet (entries_of t.history)) journals

-- then the journals are quiet
abbrev pub RunOfPlayersIsQuiet : Type 0
RunOfPlayersIsQuiet =
    (play : Play) (journals : List Track) (r : RunsPlayers play journals) → FinishesLast play r.published journals
    → IsQuiet play.recompute play.bisect journals
