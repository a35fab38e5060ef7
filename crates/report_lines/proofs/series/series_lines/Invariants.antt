use Rattle.std.{proofs.Common.{◌≡◌, map, take}, specs.Prelude.All}
use Rattle.history_model.specs.Runs.{Series}
use Rattle.series_index.specs.Seen.{seen}
use Rattle.track_model.specs.Reports.{series_in}
use Rattle.report_lines.specs.SeriesLines.{IsLine}
use Rattle.report_lines.proofs.series.series_lines.Given as goal

-- the lines of the names so far, while what is seen stays
abbrev pub invariant-loop-name : goal.invariant-loop-name
invariant-loop-name l =
    (map series_in l.lines ≡ take l.name-index l.names) × All (IsLine l.fn.series l.published) l.lines × ((s : Series) → seen s l.series ≡ seen s l.fn.series)
