-- No public contract cites this. A script's way along the journal of a machine.
use Rattle.std.specs.{Prelude.{◌≡◌, ◌<◌, ◌≤◌, ◌^◌, ℕ, false, List, length, Option, Some, None}, List.AllByRecursion}
use Rattle.history_model.specs.{declared.entries.Placed.Placed, Allowed.Legal, Entries.entries_of}
use Rattle.journal_lines.specs.Lines.{HasLine}
use Rattle.play_model.specs.Replies.{stands_alone}
use Rattle.request_model.specs.{declared.requests.Request.Request, Requests.machine_of}
use Rattle.journal_walk.specs.Walks.{Walked, IsAlong}
use Rattle.play_audit.specs.declared.place.Place.{Place}

-- a history that lines say, each entry allowed behind those before it
pub record IsSound (history : List Placed) : Type 0 where
  pub legal : Legal (entries_of history)
  pub lines : AllByRecursion HasLine history

-- a walk stands along a history of a machine, no further than so many entries
pub record IsBy (machine : List ℕ) (history : List Placed) (count : ℕ) (w : Walked) : Type 0 where
  pub along : IsAlong w
  pub same : w.history ≡ history
  pub machine_is : w.track.machine ≡ machine
  pub behind : length w.track.history ≤ count
  pub within : count ≤ length history

-- and exactly behind so many
pub record IsBehind (machine : List ℕ) (history : List Placed) (count : ℕ) (w : Walked)
    : Type 0 where
  pub by : IsBy machine history count w
  pub there : length w.track.history ≡ count

-- a request about the machine of a walk, which scripts may ask at once
pub record MayAsk (q : Request) (w : Walked) : Type 0 where
  pub along : IsAlong w
  pub few : length w.history < 2 ^ 64
  pub asked : machine_of q ≡ w.track.machine
  pub shared : stands_alone q ≡ false

-- so many entries were known, behind a walk along a history that lines say
pub record Knows (w : Walked) (known : ℕ) : Type 0 where
  pub along : IsAlong w
  pub sound : IsSound w.history
  pub few : length w.history < 2 ^ 64
  pub since : known ≤ length w.track.history

-- a walk, if there is one, went no further than so many entries
abbrev pub IsWay : List ℕ → List Placed → ℕ → Option Walked → Type 0
IsWay machine history count None = count ≤ length history
IsWay machine history count (Some w) = IsBy machine history count w

-- a script's way: it knows so many entries, and its walk, if it has one, went no further
abbrev pub IsPlace : List ℕ → List Placed → Place → Type 0
IsPlace machine history place = IsWay machine history place.known place.walk

-- and it has one
pub record Walks (machine : List ℕ) (history : List Placed) (place : Place) : Type 0 where
  pub walk : Walked
  pub is : place.walk ≡ Some walk
  pub by : IsBy machine history place.known walk
