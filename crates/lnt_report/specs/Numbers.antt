-- The numbers of an LNT run, and what they measure.
use Rattle.std.specs.Prelude.{◌≡◌, ℕ, ◌≤◌, ◌^◌, Bool, true, false, not, ◌&&◌, List, [], ◌∷◌, ◌++◌, Option, Some, None, unsigned_abs, codes, if◌then◌else◌}
use Rattle.std.specs.List.{flat_map, sum_by}
use Rattle.json_text.specs.Tree.{Tree, null, number, text, list}
use Rattle.metric_value.specs.Values.{IsValueOf, HasNoneInRange}
use Rattle.sample_model.specs.Samples.{Measurement}
use Rattle.lnt_report.specs.{Look.{Entry, trees, fields, items_in, at, name_in, is_name_key, has_metric_length}, Rules.tests_in}

-- a number of a test, by a metric, as it is spelled
pub record Reading : Type 0 where
  pub test : List ℕ
  pub metric : List ℕ
  pub spelling : List ℕ

-- the number of this test and metric, with this spelling
abbrev pub reading : List ℕ → List ℕ → List ℕ → Reading
reading test metric spelling = record { test = test; metric = metric; spelling = spelling }

-- the number that a value is; nothing of another value
abbrev pub item_readings : List ℕ → List ℕ → Tree → List Reading
item_readings test metric (number spelling) = reading test metric spelling ∷ []
item_readings test metric _ = []

-- the numbers that a member's value gives: itself, or those of its list
abbrev pub value_readings : List ℕ → List ℕ → Tree → List Reading
value_readings test metric (number spelling) = reading test metric spelling ∷ []
value_readings test metric (list items) = flat_map (item_readings test metric) (trees items)
value_readings test metric _ = []

-- whether a value is a text or null: such a member may stand in a test, and gives no number
abbrev pub is_text_or_null : Tree → Bool
is_text_or_null null = true
is_text_or_null (text content) = true
is_text_or_null _ = false

-- whether a member is a metric: its key isn't `name`, and has 1 to 64 bytes
abbrev pub is_metric : List ℕ → Bool
is_metric key = not (is_name_key key) && has_metric_length key

-- the numbers of a member of a test
abbrev pub entry_readings : List ℕ → Entry → List Reading
entry_readings test entry = if is_metric entry.0 then value_readings test entry.0 entry.1 else []

-- 1 for a member that is ignored, since its value is a text or null
abbrev pub entry_ignored : Entry → ℕ
entry_ignored entry = if is_metric entry.0 && is_text_or_null entry.1 then 1 else 0

-- the numbers of a test's members, where the test has a name
abbrev pub named_readings : Option (List ℕ) → List Entry → List Reading
named_readings None members = []
named_readings (Some test) members = flat_map (entry_readings test) members

-- how many of a test's members are ignored, where the test has a name
abbrev pub named_ignored : Option (List ℕ) → List Entry → ℕ
named_ignored None members = 0
named_ignored (Some test) members = sum_by entry_ignored members

-- the name of a test
abbrev pub test_name : Tree → Option (List ℕ)
test_name test = name_in (at (Some test) (codes "name"))

-- the numbers of a test, in the order of the text
abbrev pub test_readings : Tree → List Reading
test_readings test = named_readings (test_name test) (fields (Some test))

-- how many members of a test are ignored
abbrev pub test_ignored : Tree → ℕ
test_ignored test = named_ignored (test_name test) (fields (Some test))

-- the numbers of a run, in the order of the text
abbrev pub readings : Tree → List Reading
readings tree = flat_map test_readings (items_in (tests_in (fields (Some tree))))

-- how many members are ignored
abbrev pub ignored_in : Tree → ℕ
ignored_in tree = sum_by test_ignored (items_in (tests_in (fields (Some tree))))

-- the sample that a number is: its value by the metric has a magnitude of at most 10^16
pub record IsMeasured (r : Reading) (m : Measurement) : Type 0 where
  pub test : m.test ≡ r.test
  pub metric : m.metric ≡ r.metric
  pub value : IsValueOf r.metric r.spelling m.value
  pub in_range : unsigned_abs m.value ≤ 10 ^ 16

-- the samples that numbers are, each in its place
pub data AreMeasured : List Reading → List Measurement → Type 0 where
  none : AreMeasured [] []
  one : {r : Reading} {m : Measurement} {rs : List Reading} {ms : List Measurement}
      → IsMeasured r m → AreMeasured rs ms → AreMeasured (r ∷ rs) (m ∷ ms)

-- the first number that is no sample, since it is no numeral or out of range, has this test and this metric
pub record IsOut (rs : List Reading) (test metric : List ℕ) : Type 0 where
  pub front : List Reading
  pub out : Reading
  pub back : List Reading
  pub split : rs ≡ front ++ (out ∷ back)
  pub samples : List Measurement
  pub before : AreMeasured front samples
  pub none : HasNoneInRange out.metric out.spelling
  pub of_test : test ≡ out.test
  pub of_metric : metric ≡ out.metric
