-- No public contract cites this. The first members of a report in JSON.
use Rattle.std.specs.Prelude.{ℕ, List, ◌++◌, map, codes}
use Rattle.json.specs.Print.{quoted}
use Rattle.serde_json.specs.{Data.array, View.items_of, Written.compact_text}
use Rattle.report_model.specs.declared.pages.Pages.{Pages}
use Rattle.report_pages.specs.Json.{job_data, regression_data, series_data}

-- those before its step
abbrev pub lists_text : Pages → List ℕ
lists_text p =
    codes "{\"jobs\":" ++ compact_text (array (items_of (map job_data p.jobs)))
    ++ codes ",\"machine\":" ++ quoted p.machine
    ++ codes ",\"regressions\":" ++ compact_text (array (items_of (map regression_data p.regressions)))
    ++ codes ",\"series\":" ++ compact_text (array (items_of (map series_data p.series)))
