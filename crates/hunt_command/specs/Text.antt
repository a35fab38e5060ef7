-- The line that a hunt prints.
use Rattle.std.specs.Prelude.{ℕ, List, [], ◌∷◌, ◌++◌, codes, decimal}
use Rattle.line_text.specs.Names.{spelling}
use Rattle.wide_bisect.specs.declared.outcome.WideOutcome.{WideOutcome, TheVariants.{Asks, Found, Undecided, Faulted}}
use Rattle.wide_bisect.specs.Searches.{Search}
use Rattle.hunt_rounds.specs.Hunts.{name_at}

-- the name of the commit at a place, in canonical spelling
abbrev pub spelt : List (List ℕ) → ℕ → List ℕ
spelt names place = spelling (name_at names place)

-- what a search found, undecided or faulted; nothing while it runs
abbrev pub outcome_text : List (List ℕ) → WideOutcome → List ℕ
outcome_text names Asks = []
outcome_text names (Found lo hi skipped) =
    codes "found " ++ spelt names lo ++ codes " " ++ spelt names hi ++ codes " skipped " ++ decimal skipped
outcome_text names (Undecided place status) = codes "undecided " ++ spelt names place ++ codes " " ++ decimal status
outcome_text names (Faulted place) = codes "faulted " ++ spelt names place

-- that and the rounds, on a line
abbrev pub hunt_text : List (List ℕ) → Search → List ℕ
hunt_text names s = outcome_text names s.outcome ++ codes " rounds " ++ decimal s.rounds ++ 10 ∷ []
