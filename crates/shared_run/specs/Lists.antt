-- The machines that a list adds to those of a store.
use Rattle.std.specs.Prelude.{◌≡◌, ℕ, ◌+◌, false, if◌then◌else◌, List, [], ◌∷◌, ◌++◌, length, take, find, fold, is_some, slice_get, Some, None}
use Rattle.metric_table.specs.{Limits.most, declared.limits.Limit.TheVariants.Machines}
use Rattle.track_model.specs.Tracks.{Track, new_track}
use Rattle.keep_rows.specs.Machines.{is_track}

-- a machine of no entries, which the store doesn't have
abbrev pub listed_track : List ℕ → Track
listed_track machine = new_track machine false

-- the machines with one more, unless it is there
abbrev pub with_machine : List Track → List ℕ → List Track
with_machine tracks machine =
    if is_some (find (is_track machine) tracks) then tracks else tracks ++ listed_track machine ∷ []

-- the machines with those of a list
abbrev pub with_listed : List Track → List (List ℕ) → List Track
with_listed tracks list = fold with_machine tracks list

-- the machine isn't there, and there are as many as there may be
pub record IsFull (tracks : List Track) (machine : List ℕ) : Type 0 where
  pub fresh : find (is_track machine) tracks ≡ None
  pub full : length tracks ≡ most Machines

-- the machine at this place of the list, from 1, is the one for which there is no room: the seventeenth
pub record IsFullAt (tracks : List Track) (list : List (List ℕ)) (place : ℕ) : Type 0 where
  pub before : ℕ
  pub machine : List ℕ
  pub counted : place ≡ before + 1
  pub next : slice_get list before ≡ Some machine
  pub is_full : IsFull (with_listed tracks (take before list)) machine
