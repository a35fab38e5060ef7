-- The order of series.
use Rattle.std.specs.{declared.cmp.Ordering.Ordering, Ordering.{nat_cmp, ordering_then}, Cmp.Lexicographic.slice_cmp}
use Rattle.history_model.specs.Runs.{Series}

-- by the bytes of the test, then of the metric
abbrev pub series_cmp : Series → Series → Ordering
series_cmp one other = ordering_then (slice_cmp nat_cmp one.test other.test) (slice_cmp nat_cmp one.metric other.metric)
