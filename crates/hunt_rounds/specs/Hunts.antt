-- A hunt: a search by rounds over commits by name, of which each place of a round is asked of the runner in that place.
use Rattle.std.specs.Prelude.{◌≡◌, ◌≢◌, ℕ, ◌+◌, ◌-◌, List, [], ◌∷◌, ◌++◌, length, slice_index_or, nat_lt, if◌then◌else◌, Option, None}
use Rattle.track_outside.specs.{Asked.Ask, declared.runner.Runner.Ghosts}
use Rattle.wide_bisect.specs.{declared.outcome.WideOutcome.TheVariants.Asks, Searches.{Search, begun, asks, place_in_round, after, after_all}}
use Rattle.wide_bisect.specs.{Answers.skipped_places, Laws.{AreTaken, IsWithinBound, all_said, skipping}}
use Rattle.hunt_rounds.specs.Asked.{EachWasAsked}

-- the name of the commit at a place
abbrev pub name_at : List (List ℕ) → ℕ → List ℕ
name_at names place = slice_index_or names place []

-- what is asked in a round of the runner in a place, counted from 0: the test of one commit, if the round has so many places
abbrev pub ask_in : List ℕ → List (List ℕ) → ℕ → Search → List (Option ℕ) → List Ask
ask_in test names i s statuses =
    if nat_lt i (asks s)
    then record { test = test; commit = name_at names (place_in_round s (i + 1)); status = slice_index_or statuses i None } ∷ []
    else []

-- what is asked of it in some rounds, in order
abbrev pub asks_in : List ℕ → List (List ℕ) → Search → List (List (Option ℕ)) → ℕ → List Ask
asks_in test names s [] i = []
asks_in test names s (statuses ∷ rounds) i = ask_in test names i s statuses ++ asks_in test names (after s statuses) rounds i

-- the rounds were answered as they were asked, and the statuses are those that the runners gave to just these asks
pub record Goes {R : Type 0} (g : Ghosts R) (test : List ℕ) (names : List (List ℕ)) (width : ℕ) (old new : List R) (s : Search) : Type 0 where
  pub rounds : List (List (Option ℕ))
  pub taken : AreTaken (begun (length names - 1) width) rounds
  pub search : s ≡ after_all (begun (length names - 1) width) rounds
  pub asked : EachWasAsked g (asks_in test names (begun (length names - 1) width) rounds) old new

-- the search is closed, and within its bound of rounds
pub record IsHunted {R : Type 0} (g : Ghosts R) (test : List ℕ) (names : List (List ℕ)) (width : ℕ) (old new : List R) (s : Search) : Type 0 where
  pub goes : Goes g test names width old new s
  pub closed : s.outcome ≢ Asks
  pub bound : IsWithinBound (length names - 1) width (length s.left) (length goes.rounds) (skipping (begun (length names - 1) width) goes.rounds)
      (length (skipped_places (all_said (begun (length names - 1) width) goes.rounds))) s
