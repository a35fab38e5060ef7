use Rattle.std.proofs.Common.{◌≡◌, ◌<◌, length, take}
use Rattle.history_model.specs.Runs.{Series}
use Rattle.series_index.specs.{Seen.seen, Taken.of_series, Demands.new_ones, Plenty.HasPlenty}
use Rattle.series_index.proofs.series.SeriesIndex.have_plenty.Given as goal

-- no series of the samples so far is new, and each has plenty
abbrev pub invariant-loop-sample : goal.invariant-loop-sample
invariant-loop-sample l = record {
  none : length (new_ones l.self (take l.sample-index l.samples)) ≡ 0;
  plenty : (s : Series) → 0 < length (of_series s (take l.sample-index l.samples)) → HasPlenty (seen s l.self) l.commit (length l.samples);
}
