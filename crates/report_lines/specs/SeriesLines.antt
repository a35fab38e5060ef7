-- What a report says of the series that indexes keep.
use Rattle.std.specs.Prelude.{◌≡◌, ℕ, ℤ, List, length, map, All, Option, Some, None}
use Rattle.segment_model.specs.Segments.{values_of}
use Rattle.segment_cost.specs.declared.done.Done.{Done}
use Rattle.change_list.specs.Last.{IsLastCentre}
use Rattle.publication_index.specs.{declared.held.Held.Held, Kept.kept}
use Rattle.report_model.specs.declared.items.SeriesLine.{SeriesLine}
use Rattle.series_index.specs.{Known.AreKnown, Seen.seen, declared.tracked.Tracked.Tracked}
use Rattle.track_model.specs.Reports.{series_in}

-- the series as an index keeps them, and the last finished segmentation of each
abbrev pub Tests : Type 0
Tests = List (List ℕ × List (List ℕ × Tracked))

abbrev pub Segmentations : Type 0
Segmentations = List (List ℕ × List (List ℕ × Held))

-- how many cuts the segmentation has, and the centre of its last segment; neither where there is none
abbrev pub IsOfKept : Option Done → Option ℕ → Option ℤ → Type 0
IsOfKept None changes centre = (changes ≡ None) × (centre ≡ None)
IsOfKept (Some done) changes centre = (changes ≡ Some (length done.cert.cuts)) × IsLastCentre done.points done.cert.cuts centre

-- what a line says of its series is what is kept of it
pub record IsLine (tests : Tests) (published : Segmentations) (line : SeriesLine) : Type 0 where
  pub samples : line.samples ≡ length (values_of (seen (series_in line) tests).points)
  pub positions : line.positions ≡ length (seen (series_in line) tests).points
  pub last : IsOfKept (kept (series_in line) published) line.changes line.centre

-- a line for each known series, once, in their order
pub record AreLines (tests : Tests) (published : Segmentations) (lines : List SeriesLine) : Type 0 where
  pub known : AreKnown tests (map series_in lines)
  pub each : All (IsLine tests published) lines
