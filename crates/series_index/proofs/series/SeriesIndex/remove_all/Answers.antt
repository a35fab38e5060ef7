use Rattle.std.{proofs.Common.{take, cond, arith}, specs.List.list_any, proofs.lemmas.Grind.common_steps}
use Rattle.series_index.{specs.Seen.{seen, taken_out, is_series}, proofs.Runs.{series-is, once-more}}
use Rattle.series_index.proofs.series.SeriesIndex.remove_all.Goals as goal

pub loop-sample-preserved : goal.loop-sample-preserved
loop-sample-preserved c s = grind (arith, common_steps, seen, list_any, take, cond, is_series, taken_out, series-is, once-more)
