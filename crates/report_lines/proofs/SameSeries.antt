-- A line tells of each index of which the same is seen.
use Rattle.std.proofs.Common.{◌≡◌, length, ap, ◌∙◌}
use Rattle.segment_model.specs.Segments.{values_of}
use Rattle.history_model.specs.Runs.{Series}
use Rattle.report_model.specs.declared.items.SeriesLine.{SeriesLine}
use Rattle.series_index.specs.{Seen.seen, declared.tracked.Tracked.Tracked}
use Rattle.track_model.specs.Reports.{series_in}
use Rattle.report_lines.specs.SeriesLines.{Tests, Segmentations, IsLine}

pub line-same : (before after : Tests) (published : Segmentations) (line : SeriesLine) → ((s : Series) → seen s after ≡ seen s before) → IsLine after published line → IsLine before published line
line-same before after published line same is = record {
  samples = is.samples ∙ ap (λ (t : Tracked). length (values_of t.points)) (same (series_in line));
  positions = is.positions ∙ ap (λ (t : Tracked). length t.points) (same (series_in line));
  last = is.last;
}
