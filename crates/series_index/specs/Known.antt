-- The series that an index knows, in a list.
use Rattle.std.specs.{Prelude.{◌≡◌, ◌↔◌, ℕ, true, List, Contains, is_some}, List.Sorted.IsStrictlySortedBy}
use Rattle.history_model.specs.{Runs.Series, SeriesOrder.series_cmp}
use Rattle.series_index.specs.{Seen.seen, declared.tracked.Tracked.Tracked}

-- those that ever had a sample, each once, in their order
pub record AreKnown (tests : List (List ℕ × List (List ℕ × Tracked))) (names : List Series) : Type 0 where
  pub just : (s : Series) → (is_some (seen s tests).since ≡ true) ↔ Contains names s
  pub ordered : IsStrictlySortedBy series_cmp names
