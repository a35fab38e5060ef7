-- The text form of a report: a line for each series, each regression and each bisection.
use Rattle.std.specs.Prelude.{ℕ, ℤ, List, ◌++◌, flat_map, codes, decimal, Option, Some, None}
use Rattle.line_text.specs.Names.{spelling}
use Rattle.fixed_value.specs.Fixed.{fixed_text}
use Rattle.metric_table.specs.Table.{row_of}
use Rattle.regression_state.specs.Moves.{word}
use Rattle.report_model.specs.declared.{items.SeriesLine.SeriesLine, items.RegressionLine.RegressionLine, items.JobLine.JobLine, pages.Pages.Pages}
use Rattle.report_pages.specs.Alignment.{left_aligned, right_aligned}
use Rattle.report_model.specs.Outcomes.{outcome_text}

-- a count in decimal, or `-` where there is none
abbrev pub count_text : Option ℕ → List ℕ
count_text None = codes "-"
count_text (Some n) = decimal n

-- a value of a metric with the metric's decimals
abbrev pub value_text : List ℕ → ℤ → List ℕ
value_text metric value = fixed_text value (row_of metric).decimals

abbrev pub centre_text : List ℕ → Option ℤ → List ℕ
centre_text metric None = codes "-"
centre_text metric (Some value) = value_text metric value

abbrev pub series_text : SeriesLine → List ℕ
series_text s =
    codes "series " ++ left_aligned 40 (spelling s.test)
    ++ codes " " ++ left_aligned 16 (spelling s.metric)
    ++ codes " " ++ right_aligned 8 (decimal s.samples)
    ++ codes " " ++ right_aligned 8 (decimal s.positions)
    ++ codes " " ++ right_aligned 8 (count_text s.changes)
    ++ codes " " ++ right_aligned 20 (centre_text s.metric s.centre)
    ++ codes "\n"

abbrev pub regression_text : RegressionLine → List ℕ
regression_text r =
    codes "regression " ++ decimal r.number
    ++ codes " " ++ spelling r.test ++ codes " " ++ spelling r.metric
    ++ codes " " ++ spelling r.before ++ codes " " ++ spelling r.after
    ++ codes " " ++ word r.state ++ codes "\n"

abbrev pub job_text : JobLine → List ℕ
job_text j =
    codes "job " ++ decimal j.job ++ codes " range " ++ decimal j.range
    ++ codes " questions " ++ decimal j.questions ++ codes " " ++ outcome_text j.outcome ++ codes "\n"

abbrev pub pages_text : Pages → List ℕ
pages_text p = flat_map series_text p.series ++ flat_map regression_text p.regressions ++ flat_map job_text p.jobs
