-- What a worker that bisects adds to a machine, and what its runner was asked for it.
use Rattle.std.specs.Prelude.{◌≡◌, ◌≤◌, ℕ, ◌+◌, ◌-◌, ◌^◌, min, List, ◌++◌, length, take, All, option_map, Option}
use Rattle.track_outside.specs.Asked.{Ask}
use Rattle.history_model.specs.{declared.entries.Author.Author, declared.entries.Placed.Placed, Entries.entries_of}
use Rattle.track_room.specs.Settling.{entry_said}
use Rattle.track_model.specs.Tracks.{Track}
use Rattle.worker_model.specs.Findings.{AsksCommit, findings_behind}
use Rattle.bisect_workers.specs.Findings.{Use, asks_of, found_of, give_ups}

-- what this author says of a place of a job
pub record IsSaidBy (author : Author) (p : Placed) : Type 0 where
  pub author_is : p.author ≡ author
  pub job : ℕ
  pub place : ℕ
  pub status : Option ℕ
  pub entry_is : p.entry ≡ entry_said job place status

-- an ask is one of the test of that word, on a commit that a job asks after some first entries of a history
pub record IsDue (word : List ℕ) (history : List Placed) (ask : Ask) : Type 0 where
  pub of_test : ask.test ≡ word
  pub count : ℕ
  pub within : count ≤ length history
  pub asked : AsksCommit (entries_of (take count history)) ask.commit

-- a count of faults rose by so much at least, or stands at its last value
abbrev pub RoseBy : ℕ → ℕ → ℕ → Type 0
RoseBy many before after = min (before + many) (2 ^ 64 - 1) ≤ after

-- What the worker of this author added, and its runner's asks: its entries say what some of the asks found, in order, and no
-- ask is used twice; each ask was due; and as many were given up at most as the runner failed.
pub record IsBisected (author : Author) (word : List ℕ) (old new : Track) (asked asked' : Option (List Ask)) (faults faults' : ℕ) : Type 0 where
  pub machine : new.machine ≡ old.machine
  pub kept : new.kept ≡ old.kept
  pub more : List Placed
  pub history : new.history ≡ old.history ++ more
  pub each : All (IsSaidBy author) more
  pub uses : List Use
  pub told : asked' ≡ option_map (λ (before : List Ask). before ++ asks_of uses) asked
  pub found : findings_behind (entries_of old.history) more ≡ found_of uses
  pub due : All (IsDue word new.history) (asks_of uses)
  pub given_up : RoseBy (give_ups more) faults faults'
