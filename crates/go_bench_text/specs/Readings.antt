-- The samples of a text, by a look back from each result line to the last line before it that sets `pkg`.
use Rattle.std.specs.Prelude.{◌≡◌, ℕ, ◌+◌, ◌-◌, ◌<◌, ◌≤◌, Bool, false, ◌&&◌, ◌⊎◌, List, [], ◌∷◌, ◌++◌, length, take, slice_index_or, reverse, find, codes, bytes_eq}
use Rattle.std.specs.{Option.option_map_or, Str.IsUtf8}
use Rattle.line_text.specs.Lines.{lines_of}
use Rattle.metric_table.specs.{Limits.most, declared.limits.Limit.TheVariants.RunSamples}
use Rattle.metric_value.specs.Values.{IsValueOf, HasNoneInRange}
use Rattle.sample_model.specs.Samples.{Measurement}
use Rattle.go_bench_text.specs.Bytes as byte
use Rattle.go_bench_text.specs.Lines.{is_config, key_of, value_of, begins, IsResult, IsBroken}

-- a configuration line with the key `pkg`
abbrev pub sets_pkg : List ℕ → Bool
sets_pkg line = is_config line && bytes_eq (key_of line) (codes "pkg")

-- the value on the last of the lines that sets `pkg`; nothing where none does
abbrev pub pkg_of : List (List ℕ) → List ℕ
pkg_of before = option_map_or value_of (find sets_pkg (reverse before)) []

-- the test of a result line: `pkg`, `#` and the name, or without a `pkg` the name, or `#` where that is empty too
abbrev pub test_of : List ℕ → List ℕ → List ℕ
test_of [] [] = codes "#"
test_of [] (b ∷ name) = b ∷ name
test_of (b ∷ pkg) name = (b ∷ pkg) ++ byte.hash ∷ name

-- the sample of a numeral's text and its unit: the unit is its metric, by which the text has the sample's value
pub record IsSampleOf (test text unit : List ℕ) (sample : Measurement) : Type 0 where
  pub of_test : sample.test ≡ test
  pub by_metric : sample.metric ≡ unit
  pub value : IsValueOf unit text sample.value

-- one sample for each pair of a value and a unit, in order
abbrev pub PairsGive : List ℕ → List (List ℕ) → List Measurement → Type 0
PairsGive test [] [] = Unit {0}
PairsGive test (value ∷ unit ∷ more) (sample ∷ samples) = IsSampleOf test value unit sample × PairsGive test more samples
PairsGive test _ _ = ⊥

-- the samples that a line gives behind other lines, and how many lines are ignored and counted there
pub data LineGives (before : List (List ℕ)) (line : List ℕ) (samples : List Measurement) (ignored : ℕ) : Type 0 where
  measured : (name : List ℕ) (pairs : List (List ℕ)) → IsResult line name pairs
      → PairsGive (test_of (pkg_of before) name) pairs samples → ignored ≡ 0 → LineGives before line samples ignored
  broken : IsBroken line → samples ≡ [] → ignored ≡ 1 → LineGives before line samples ignored
  silent : begins line ≡ false → samples ≡ [] → ignored ≡ 0 → LineGives before line samples ignored

-- the same of lines in a row: their samples are joined, their ignored lines summed
abbrev pub LinesGive : List (List ℕ) → List (List ℕ) → List Measurement → ℕ → Type 0
LinesGive before [] samples ignored = (samples ≡ []) × (ignored ≡ 0)
LinesGive before (line ∷ lines) samples ignored =
    (first : List Measurement) × (rest : List Measurement) × (here : ℕ) × (later : ℕ)
    × (samples ≡ first ++ rest) × (ignored ≡ here + later)
    × LineGives before line first here × LinesGive (before ++ line ∷ []) lines rest later

-- whatever lines stand before, lines have one list of samples and one number of ignored lines
abbrev pub OneReading : Type 0
OneReading =
    (before lines : List (List ℕ)) (samples others : List Measurement) (ignored count : ℕ)
    → LinesGive before lines samples ignored → LinesGive before lines others count
    → (samples ≡ others) × (ignored ≡ count)

-- one of the pairs has a value that is out of range
abbrev pub HasLarge : List (List ℕ) → Type 0
HasLarge [] = ⊥
HasLarge (value ∷ []) = ⊥
HasLarge (value ∷ unit ∷ more) = HasNoneInRange unit value ⊎ HasLarge more

-- a result line with a test of more than 256 bytes, or with a value that is out of range
pub record IsOver (before : List (List ℕ)) (line : List ℕ) : Type 0 where
  pub name : List ℕ
  pub pairs : List (List ℕ)
  pub is : IsResult line name pairs
  pub over : (256 < length (test_of (pkg_of before) name)) ⊎ HasLarge pairs

-- the line at this place, from 0, is out of range behind those before it
abbrev pub IsOverAt : List (List ℕ) → ℕ → Type 0
IsOverAt lines k = IsOver (take k lines) (slice_index_or lines k [])

-- the line with this number, from 1, is the first that is out of range
pub record IsFirstOver (lines : List (List ℕ)) (number : ℕ) : Type 0 where
  pub from_one : 1 ≤ number
  pub within : number ≤ length lines
  pub over : IsOverAt lines (number - 1)
  pub first : (k : ℕ) → k < number - 1 → ¬ IsOverAt lines k

-- none of the first n lines is out of range
abbrev pub NoneOverBelow : List (List ℕ) → ℕ → Type 0
NoneOverBelow lines n = (k : ℕ) → k < n → ¬ IsOverAt lines k

-- the text's samples and the number of its ignored lines, with no line out of range
pub record IsRead (bytes : List ℕ) (samples : List Measurement) (ignored : ℕ) : Type 0 where
  pub text : IsUtf8 bytes
  pub gives : LinesGive [] (lines_of bytes) samples ignored
  pub in_range : NoneOverBelow (lines_of bytes) (length (lines_of bytes))

-- no line is out of range, and there are more samples than a run may have
abbrev pub HasTooMany : List ℕ → Type 0
HasTooMany bytes =
    (samples : List Measurement) × (ignored : ℕ) × IsRead bytes samples ignored × (most RunSamples < length samples)
