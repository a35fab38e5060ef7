-- Where a machine stands among the tracks.
use Rattle.std.specs.Prelude.{◌≡◌, ℕ, zero, suc, false, List, [], ◌∷◌, find, Some, slice_get, set}
use Rattle.track_model.specs.Tracks.{Track}
use Rattle.keep_rows.specs.Machines.{is_track, changed}

-- the first track of the machine stands at this place
pub record IsFirstAt (machine : List ℕ) (tracks : List Track) (i : ℕ) (t : Track) : Type 0 where
  pub place : slice_get tracks i ≡ Some t
  pub found : find (is_track machine) tracks ≡ Some t
  pub named : t.machine ≡ machine
  pub change : (f : Track → Track) → changed machine f tracks ≡ set tracks i (f t)

-- the tracks before this place are of other machines
abbrev pub NoneBefore : List ℕ → List Track → ℕ → Type 0
NoneBefore machine tracks zero = Unit {0}
NoneBefore machine [] (suc i) = Unit {0}
NoneBefore machine (t ∷ tracks) (suc i) = (is_track machine t ≡ false) × NoneBefore machine tracks i
