use Rattle.std.{proofs.Common.{◌≡◌, take, cond}, specs.List.list_any}
use Rattle.history_model.specs.Runs.{Series, is_of}
use Rattle.series_index.specs.Seen.{seen, taken_out}
use Rattle.series_index.proofs.series.SeriesIndex.remove_all.Given as goal

-- of the series of the samples so far, the samples of the step are out
abbrev pub invariant-loop-sample : goal.invariant-loop-sample
invariant-loop-sample l = (s : Series) → seen s l.self ≡ cond (list_any (is_of s) (take l.sample-index l.samples)) (taken_out l.forget l.commit l.step (seen s l.fn.self)) (seen s l.fn.self)
