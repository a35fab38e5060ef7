-- No public contract cites this. One round of asks.
use Rattle.std.specs.Prelude.{◌≡◌, ◌<◌, ℕ, get_or, List, [], ◌∷◌, length, slice_index, slice_index_or, nat_lt, if◌then◌else◌, Option, None, Result, Ok, Err}
use Rattle.track_outside.specs.Asked.{Ask}
use Rattle.hunt_rounds.specs.{declared.asking.Asking.Asking, Hunts.name_at}

-- an ask that was answered, if only that it failed
abbrev pub asks_of : {E : Type 0} → List ℕ → List ℕ → Result (Option ℕ) E → List Ask
asks_of test commit (Ok status) = record { test = test; commit = commit; status = status } ∷ []
asks_of test commit (Err e) = []

-- what the runner at a place is asked in a round of these places of commits
abbrev pub asks_at : List ℕ → List (List ℕ) → List ℕ → List (Option ℕ) → ℕ → List Ask
asks_at test names places statuses i =
    if nat_lt i (length places)
    then record { test = test; commit = name_at names (slice_index places i); status = slice_index_or statuses i None } ∷ []
    else []

-- an asker for the commit at each of these places
pub record AreAskings (test : List ℕ) (names : List (List ℕ)) (places : List ℕ) (askings : List Asking) : Type 0 where
  pub count : length askings ≡ length places
  pub tests : (i : ℕ) (d : Asking) → i < length places → (get_or askings i d).test.now ≡ test
  pub commits : (i : ℕ) (d : Asking) → i < length places → (get_or askings i d).commit.now ≡ name_at names (slice_index places i)

-- each asker has this status for an answer
pub record AreAnswers (askings : List Asking) (statuses : List (Option ℕ)) : Type 0 where
  pub count : length statuses ≡ length askings
  pub each : (i : ℕ) (d : Asking) → i < length askings → (get_or askings i d).answer ≡ Ok (slice_index_or statuses i None)
