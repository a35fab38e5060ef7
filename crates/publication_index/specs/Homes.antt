-- The series whose tables are home, as a set.
use Rattle.std.specs.Prelude.{ℕ, List, flat_map, map, is_some}
use Rattle.std.specs.FinSet as set
use Rattle.history_model.specs.{Runs.Series, SeriesOrder.series_cmp}
use Rattle.publication_index.specs.{declared.held.Held.Held, Kept.home}

-- the series of which something is held
abbrev pub of_test : List ℕ × List (List ℕ × Held) → List Series
of_test t =
    map (λ (m : List ℕ × Held). let s : Series = record { test = t.0; metric = m.0 } in s) t.1

abbrev pub held_series : List (List ℕ × List (List ℕ × Held)) → List Series
held_series tests = flat_map of_test tests

-- those of them whose tables are home
abbrev pub homes : List (List ℕ × List (List ℕ × Held)) → set.FinSet series_cmp
homes tests = set.retain (set.from_list (held_series tests)) (λ s. is_some (home s tests))
