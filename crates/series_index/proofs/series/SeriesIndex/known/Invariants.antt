use Rattle.std.{proofs.Common.{◌≡◌, ◌++◌}, specs.List.AllByRecursion}
use Rattle.series_index.{specs.Listed.{all_known, in_places}, proofs.KnownSeries.HasSorted}
use Rattle.series_index.proofs.series.SeriesIndex.known.Given as goal

-- those that are listed, with those to come; and those to come are in order, as the listed ones are
abbrev pub invariant-loop-test : goal.invariant-loop-test
invariant-loop-test l =
    (l.names ++ all_known (in_places l.self l.test-iterator) ≡ all_known (in_places l.self l.initial.test-iterator))
    × (AllByRecursion HasSorted (in_places l.self l.test-iterator) → AllByRecursion HasSorted (in_places l.self l.initial.test-iterator))
