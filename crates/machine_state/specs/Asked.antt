-- What a run more asks of the series of a history.
use Rattle.std.specs.Prelude.{◌≡◌, ◌↔◌, ◌+◌, ◌<◌, ◌≤◌, false, IsTrue, List, filter, length}
use Rattle.segment_model.specs.{Segments.values_of, Edits.has_commit}
use Rattle.history_model.specs.{Positions.positions, declared.entries.Entry.Entry, declared.run.Run.Run, Runs.{Series, is_of, new_series}}
use Rattle.series_index.specs.declared.demand.Demand.{Demand}

-- how many series are new, and whether each that it has has room
pub record Asks (h : List Entry) (run : Run) (d : Demand) : Type 0 where
  pub new : d.new ≡ length (new_series h run.samples)
  pub few : d.new ≤ 65_536
  pub samples : IsTrue d.samples_fit
      ↔ ((s : Series) → 0 < length (filter (is_of s) run.samples) → length (values_of (positions h s)) + length (filter (is_of s) run.samples) ≤ 65_536)
  pub positions : IsTrue d.positions_fit
      ↔ ((s : Series) → 0 < length (filter (is_of s) run.samples) → has_commit run.commit (positions h s) ≡ false → length (positions h s) < 16_384)
