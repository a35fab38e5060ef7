-- The JSON form of a report: one line, with the members of each object in the order of their keys.
use Rattle.std.specs.Prelude.{ℕ, ℤ, List, ◌++◌, map, codes, Option, Some, None}
use Rattle.serde_json.specs.{Data.{Data, null, number, unsigned, string, array, object, member, no_members}, View.items_of, Written.compact_text}
use Rattle.regression_state.specs.Moves.{word}
use Rattle.report_model.specs.declared.{items.SeriesLine.SeriesLine, items.RegressionLine.RegressionLine, items.JobLine.JobLine, pages.Pages.Pages}
use Rattle.report_model.specs.Outcomes.{outcome_text}
use Rattle.report_pages.specs.Text.{value_text}

abbrev pub count_data : ℕ → Data
count_data n = number (unsigned n)

-- a count, or null where there is none
abbrev pub count_or_null : Option ℕ → Data
count_or_null None = null
count_or_null (Some n) = count_data n

-- the text of a value, or null where there is none
abbrev pub centre_or_null : List ℕ → Option ℤ → Data
centre_or_null metric None = null
centre_or_null metric (Some value) = string (value_text metric value)

-- a series, with its centre and its count of changes
abbrev pub series_of : SeriesLine → Data → Data → Data
series_of s centre changes = object (
    member (codes "centre") centre (
    member (codes "changes") changes (
    member (codes "metric") (string s.metric) (
    member (codes "positions") (count_data s.positions) (
    member (codes "samples") (count_data s.samples) (
    member (codes "test") (string s.test) no_members))))))

abbrev pub series_data : SeriesLine → Data
series_data s = series_of s (centre_or_null s.metric s.centre) (count_or_null s.changes)

abbrev pub regression_data : RegressionLine → Data
regression_data r = object (
    member (codes "after") (string r.after) (
    member (codes "before") (string r.before) (
    member (codes "metric") (string r.metric) (
    member (codes "number") (count_data r.number) (
    member (codes "state") (string (word r.state)) (
    member (codes "test") (string r.test) no_members))))))

abbrev pub job_data : JobLine → Data
job_data j = object (
    member (codes "job") (count_data j.job) (
    member (codes "outcome") (string (outcome_text j.outcome)) (
    member (codes "questions") (count_data j.questions) (
    member (codes "range") (count_data j.range) no_members))))

-- a report, with its bisections, its regressions and its series
abbrev pub pages_of : Pages → Data → Data → Data → Data
pages_of p jobs regressions series = object (
    member (codes "jobs") jobs (
    member (codes "machine") (string p.machine) (
    member (codes "regressions") regressions (
    member (codes "series") series (
    member (codes "step") (count_data p.step) no_members)))))

abbrev pub pages_data : Pages → Data
pages_data p =
    pages_of p (array (items_of (map job_data p.jobs))) (array (items_of (map regression_data p.regressions))) (array (items_of (map series_data p.series)))

-- the line of the data, with no white space
abbrev pub pages_json : Pages → List ℕ
pages_json p = compact_text (pages_data p) ++ codes "\n"
