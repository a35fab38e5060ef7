-- No public contract cites this. The known series, one after another.
use Rattle.std.specs.Prelude.{ℕ, Bool, if◌then◌else◌, List, [], ◌∷◌, ◌++◌, map, get_or, is_some, Option, option_map}
use Rattle.history_model.specs.Runs.{Series}
use Rattle.series_index.specs.declared.tracked.Tracked.{Tracked}

-- a series before others, where it is known
abbrev pub put_if : Bool → Series → List Series → List Series
put_if known s more = if known then s ∷ more else more

-- the known series of one test
abbrev pub known_of : List ℕ → List (List ℕ × Tracked) → List Series
known_of test [] = []
known_of test (e ∷ es) = put_if (is_some e.1.since) (record { test = test; metric = e.0 }) (known_of test es)

-- those of all tests
abbrev pub all_known : List (List ℕ × List (List ℕ × Tracked)) → List Series
all_known [] = []
all_known (t ∷ ts) = known_of t.0 t.1 ++ all_known ts

-- the metrics of the test at a place, and those of tests by their places
abbrev pub metrics_at : List (List ℕ × List (List ℕ × Tracked)) → ℕ → List (List ℕ × Tracked)
metrics_at tests place = (get_or tests place ([], [])).1

abbrev pub at_place : List (List ℕ × List (List ℕ × Tracked)) → Option ℕ → Option (List (List ℕ × Tracked))
at_place tests place = option_map (metrics_at tests) place

abbrev pub in_places : List (List ℕ × List (List ℕ × Tracked)) → List (List ℕ × ℕ) → List (List ℕ × List (List ℕ × Tracked))
in_places tests order = map (λ (e : List ℕ × ℕ). (e.0, metrics_at tests e.1)) order
