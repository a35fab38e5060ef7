use Rattle.std.proofs.Common.{◌≡◌, ◌++◌}
use Rattle.series_index.specs.Listed.{known_of}
use Rattle.series_index.proofs.metrics.MetricIndex.put_known.Given as goal

-- those that are listed, with those to come
abbrev pub invariant-loop-metric : goal.invariant-loop-metric
invariant-loop-metric l = l.names ++ known_of l.test l.metric-iterator ≡ l.fn.names ++ known_of l.test l.self
