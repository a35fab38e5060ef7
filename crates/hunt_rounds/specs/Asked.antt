-- What runners were asked, each by its place.
use Rattle.std.specs.Prelude.{◌≡◌, ◌≤◌, ◌<◌, ℕ, List, ◌++◌, All, Contains, length, get_or, option_map, None}
use Rattle.track_outside.specs.{Asked.Ask, Counts.Rose, declared.runner.Runner.Ghosts}

-- the runner was asked just this, where it tells what it was asked, and failed where an ask has no status
pub record WasAsked {R : Type 0} (g : Ghosts R) (asks : List Ask) (old new : R) : Type 0 where
  pub told : g.asked new ≡ option_map (λ (before : List Ask). before ++ asks) (g.asked old)
  pub rose : (ask : Ask) → Contains asks ask → ask.status ≡ None → Rose (g.faults old) (g.faults new)
  pub counts : g.faults old ≤ g.faults new

-- each runner stands in its place, and was asked just what is meant for that place; places count from 0
pub record EachWasAsked {R : Type 0} (g : Ghosts R) (asks : ℕ → List Ask) (old new : List R) : Type 0 where
  pub kept : length new ≡ length old
  pub each : (i : ℕ) (d : R) → i < length old → WasAsked g (asks i) (get_or old i d) (get_or new i d)

-- an ask is one of the test of that word, on one of these commits
pub record IsOf (test : List ℕ) (names : List (List ℕ)) (ask : Ask) : Type 0 where
  pub of_test : ask.test ≡ test
  pub of_names : Contains names ask.commit

-- each runner stands in its place, and was asked the test of that word alone, on some of these commits
pub record WereAskedOf {R : Type 0} (g : Ghosts R) (test : List ℕ) (names : List (List ℕ)) (old new : List R) : Type 0 where
  pub kept : length new ≡ length old
  pub each : (i : ℕ) (d : R) → i < length old
      → (asks : List Ask) × All (IsOf test names) asks × WasAsked g asks (get_or old i d) (get_or new i d)
