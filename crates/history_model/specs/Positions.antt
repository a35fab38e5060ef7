-- The positions of a series: what its live runs brought, filtered from the history anew and put in order.
use Rattle.std.specs.Prelude.{List, map, filter, flat_map}
use Rattle.segment_model.specs.Segments.{Position}
pub use Rattle.segment_model.specs.Brought.{Brought, in_place, rising, position_at, positions_of, observed}
use Rattle.sample_model.specs.Samples.{Measurement}
use Rattle.history_model.specs.{Runs.{Series, live_runs, is_of}, declared.entries.Acceptance.Acceptance, declared.entries.Entry.Entry}

-- what a run brought of a series, in the order of its samples
abbrev pub brought_by : Series → Acceptance → List Brought
brought_by series a =
    map (λ (x : Measurement). record { commit = a.run.commit; step = a.step; value = x.value }) (filter (is_of series) a.run.samples)

-- what some runs brought of a series, by their steps
abbrev pub brought : Series → List Acceptance → List Brought
brought series runs = flat_map (brought_by series) runs

-- the positions of a series
abbrev pub positions : List Entry → Series → List Position
positions h series = positions_of (brought series (live_runs h))
