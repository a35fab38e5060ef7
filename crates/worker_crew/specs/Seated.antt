-- Workers that were run, as seats of their room.
use Rattle.std.specs.{Prelude.{◌≡◌, ℕ, List, ◌++◌, length, map}, List.{AllByRecursion, AllZip}}
use Rattle.track_outside.specs.declared.runner.Runner as runner
use Rattle.history_model.specs.declared.entries.Author.TheVariants.{Bisect, Recompute}
use Rattle.side_by_side.specs.Runs.{AllWorked}
use Rattle.track_model.specs.Tracks.{Track}
use Rattle.play_crew.specs.{Rooms.{AreSame, IsPassOf}, Sights.{Home, IsFirstOf, Sight}, Seats.Seat, Shared.{IsShared, JoinsAll, SplitsAll, pass_of}}
use Rattle.worker_crew.specs.{Runs.{AreBisectedFrom, AreRecomputedFrom, Tally}, Workers.{Bisects, Recomputes, Working, workers_from}}

-- its seat, as that of a worker that recomputes, or that bisects
abbrev pub recompute_seat : Working → Seat
recompute_seat w = record { author = Recompute w.number; room = w.room; pass = w.pass }

abbrev pub bisect_seat : Working → Seat
bisect_seat w = record { author = Bisect w.number; room = w.room; pass = w.pass }

-- what a runner tells
abbrev pub tally_of : {A : Type 0} → runner.Ghosts A → A → Tally
tally_of r a = record { asks = r.asked a; faults = r.faults a }

-- each seat has the pass that was split off for it, whatever it has seen since, at the room
pub record AreSeated (room : List Home) (befores : List (List Sight)) (seats : List Seat) : Type 0 where
  pub same : AllZip (λ (b : List Sight) (i : Seat). AreSame b i.pass) befores seats
  pub of_room : AllByRecursion (λ (i : Seat). IsPassOf room i.pass) seats
  pub many : length seats ≡ length befores

-- workers that recomputed did so at their seats
pub record HaveRecomputed (room : List Home) (passes : List (List Sight)) (workers : List Working) : Type 0 where
  pub from : AreRecomputedFrom 1 passes (map recompute_seat workers)
  pub seated : AreSeated room passes (map recompute_seat workers)

abbrev pub RecomputersSit : Type 0
RecomputersSit =
    (room : List Home) (word : List ℕ) (passes : List (List Sight)) (workers : List Working)
    → AllZip Recomputes (workers_from room word 1 passes) workers → HaveRecomputed room passes workers

-- workers that bisected did so at theirs, each with the runner in its place
pub record HaveBisected {A : Type 0} (r : runner.Ghosts A) (room : List Home) (word : List ℕ) (passes : List (List Sight))
    (old : List A) (workers : List Working) (new : List A) : Type 0 where
  pub from : (behind : List Tally) → AreBisectedFrom word 1 passes (map bisect_seat workers)
      (map (tally_of r) old ++ behind) (map (tally_of r) new ++ behind)
  pub seated : AreSeated room passes (map bisect_seat workers)

abbrev pub BisectorsSit : {A : Type 0} → runner.Ghosts A → Type 0
BisectorsSit {A = A} r =
    (room : List Home) (word : List ℕ) (passes : List (List Sight)) (old : List A) (workers : List Working) (new : List A)
    → length old ≡ length passes → AllWorked (Bisects r) (workers_from room word 1 passes) old workers new
    → HaveBisected r room word passes old workers new

-- passes that are split off, or joined, some behind others
abbrev pub SplitsGoOn : Type 0
SplitsGoOn =
    (a b c : List Sight) (xs ys : List (List Sight)) → SplitsAll a xs b → SplitsAll b ys c → SplitsAll a (xs ++ ys) c

abbrev pub JoinsGoOn : Type 0
JoinsGoOn =
    (a b c : List Sight) (xs ys : List (List Sight)) → JoinsAll a xs b → JoinsAll b ys c → JoinsAll a (xs ++ ys) c

-- the seats of three kinds, whose passes were split off the first one of a new room and joined into it again, share the room
abbrev pub SeatsShare : Type 0
SeatsShare =
    (tracks : List Track) (room : List Home) (first between last : List Sight) (ps qs rs : List (List Sight)) (us vs ws : List Seat)
    → IsPassOf room first → AllZip IsFirstOf tracks first → SplitsAll first (ps ++ (qs ++ rs)) between
    → AreSeated room ps us → AreSeated room qs vs → AreSeated room rs ws
    → JoinsAll between (map pass_of us ++ (map pass_of vs ++ map pass_of ws)) last
    → IsShared tracks room (ps ++ (qs ++ rs)) (us ++ (vs ++ ws)) first last
