-- A machine among others.
use Rattle.std.specs.{Prelude.{◌≡◌, ℕ, Bool, false, if◌then◌else◌, List, [], ◌∷◌, map, bytes_eq}, List.AllByRecursion}
use Rattle.track_model.specs.Tracks.{Track}

-- the track is of that machine
abbrev pub is_track : List ℕ → Track → Bool
is_track machine t = bytes_eq t.machine machine

-- the tracks, with the first of a machine changed
abbrev pub changed : List ℕ → (Track → Track) → List Track → List Track
changed machine change [] = []
changed machine change (t ∷ tracks) = if is_track machine t then change t ∷ tracks else t ∷ changed machine change tracks

-- the machines of tracks, and whether names differ
abbrev pub names_of : List Track → List (List ℕ)
names_of tracks = map (λ (t : Track). t.machine) tracks

abbrev pub IsOther : List ℕ → List ℕ → Type 0
IsOther name other = bytes_eq other name ≡ false

abbrev pub AreDifferent : List (List ℕ) → Type 0
AreDifferent [] = Unit {0}
AreDifferent (name ∷ names) = AllByRecursion (IsOther name) names × AreDifferent names
