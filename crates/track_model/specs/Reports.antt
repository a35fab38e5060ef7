-- What a report says of a machine, on its history.
use Rattle.std.specs.{Prelude.{◌≡◌, ◌↔◌, ℕ, ℤ, ◌+◌, Bool, true, List, [], ◌∷◌, length, map, All, Contains, Option, Some, None}, List.Sorted.IsStrictlySortedBy}
use Rattle.segment_model.specs.Segments.{values_of}
use Rattle.bisect_core.specs.Bisections.{Bisection}
use Rattle.change_list.specs.Last.{IsLastCentre}
use Rattle.report_model.specs.declared.{items.SeriesLine.SeriesLine, items.RegressionLine.RegressionLine, items.JobLine.JobLine, pages.Pages.Pages}
use Rattle.history_model.specs.{declared.entries.Entry.Entry, declared.events.Raised.Raised, declared.publication.Publication.Publication, Jobs.jobs}
use Rattle.history_model.specs.{Positions.positions, Publications.{last_publication, spoken_of}, Regressions.{regressions, state_of}, Runs.{Series, is_known}}
use Rattle.history_model.specs.SeriesOrder.{series_cmp}
use Rattle.request_model.specs.declared.replies.Answer.TheVariants as answer
use Rattle.track_model.specs.{Following.{named_by, told_of}, Outcomes.{Outcome, tells}}

-- ---- series

-- how many cuts the last publication has, and the centre of its last segment, in the positions of the version that it speaks
-- of; neither where nothing is published
abbrev pub IsOfLast : List Entry → Series → Option Publication → Option ℕ → Option ℤ → Type 0
IsOfLast h s None changes centre = (changes ≡ None) × (centre ≡ None)
IsOfLast h s (Some p) changes centre =
    (changes ≡ Some (length p.cuts)) × IsLastCentre (positions (spoken_of h p) s) p.cuts centre

-- the series of a line
abbrev pub series_in : SeriesLine → Series
series_in line = record { test = line.test; metric = line.metric }

-- what a line says of its series is so now
pub record IsSeriesLine (h : List Entry) (line : SeriesLine) : Type 0 where
  pub samples : line.samples ≡ length (values_of (positions h (series_in line)))
  pub positions : line.positions ≡ length (positions h (series_in line))
  pub last : IsOfLast h (series_in line) (last_publication (series_in line) h) line.changes line.centre

-- a line for each known series, once, in their order
pub record AreSeriesLines (h : List Entry) (lines : List SeriesLine) : Type 0 where
  pub each : All (IsSeriesLine h) lines
  pub known : (s : Series) → (is_known s h ≡ true) ↔ Contains (map series_in lines) s
  pub ordered : IsStrictlySortedBy series_cmp (map series_in lines)

-- ---- regressions and jobs

-- the line of a regression
abbrev pub regression_line : List Entry → ℕ → Raised → RegressionLine
regression_line h number r =
    record { number = number; test = r.test; metric = r.metric; before = named_by h r.before; after = named_by h r.after; state = state_of number h }

-- the line of a job
abbrev pub job_line : List Entry → ℕ → Bisection → JobLine
job_line h number b = record { job = number; range = b.range; questions = b.questions; outcome = told_of h b }

-- what is made of each item and its number, from a number on
abbrev pub numbered : {A B : Type 0} → (ℕ → A → B) → ℕ → List A → List B
numbered line number [] = []
numbered line number (x ∷ xs) = line number x ∷ numbered line (number + 1) xs

-- ---- report M text, report M json

-- the pages of a machine
pub record IsReport (h : List Entry) (machine : List ℕ) (json : Bool) (pages : Pages) : Type 0 where
  pub of_machine : pages.machine ≡ machine
  pub at_step : pages.step ≡ length h
  pub form : pages.json ≡ json
  pub of_series : AreSeriesLines h pages.series
  pub of_regressions : pages.regressions ≡ numbered (regression_line h) 1 (regressions h)
  pub of_jobs : pages.jobs ≡ numbered (job_line h) 1 (jobs h)

abbrev pub ReportComesTo : List Entry → List ℕ → Bool → Outcome → Type 0
ReportComesTo h machine json o = (pages : Pages) × IsReport h machine json pages × (o ≡ tells (answer.Report pages))
