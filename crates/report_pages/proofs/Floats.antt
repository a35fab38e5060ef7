-- No item of a report has a float.
use Rattle.std.proofs.Common.{◌≡◌, ℕ, ℤ, false, List, Option, Some, None, refl}
use Rattle.serde_json.specs.Written.{has_float}
use Rattle.report_model.specs.declared.items.SeriesLine.{SeriesLine}
use Rattle.report_pages.specs.Json.{count_or_null, centre_or_null, series_data}

count_without : (n : Option ℕ) → has_float (count_or_null n) ≡ false
count_without None = refl
count_without (Some n) = refl

centre_without : (metric : List ℕ) (z : Option ℤ) → has_float (centre_or_null metric z) ≡ false
centre_without metric None = refl
centre_without metric (Some z) = refl

pub series_without : (s : SeriesLine) → has_float (series_data s) ≡ false
series_without s = rw (centre_without s.metric s.centre, count_without s.changes) refl
