-- How samples are written, so that reading the text gives them back.
use Rattle.std.specs.Prelude.{◌≡◌, ◌≢◌, ℕ, ◌-◌, ◌<◌, Bool, true, ◌&&◌, not, List, [], ◌∷◌, ◌++◌, length, codes, ◌==◌, slice_index, slice_index_or, pos}
use Rattle.std.specs.{List.{list_all, list_any}, Str.chars}
use Rattle.metric_value.specs.Values.{value_text}
use Rattle.sample_model.specs.Samples.{Measurement}
use Rattle.go_bench_text.specs.Bytes as byte
use Rattle.go_bench_text.specs.Characters.{is_black, is_name, is_blank}

-- what is written behind `Benchmark`: nothing, or an upper case character first; and no white space
abbrev pub is_bare_name : List ℕ → Bool
is_bare_name name = is_name (chars name) && list_all is_black (chars name)

-- what a line can set `pkg` to: not nothing, no line feed, no space or tab first, no carriage return last
abbrev pub may_set : List ℕ → Bool
may_set pkg =
    (not (length pkg == 0) && not (list_any (λ b. b == byte.line_feed) pkg))
    && (not (is_blank (slice_index pkg 0)) && not (slice_index pkg (length pkg - 1) == byte.carriage_return))

-- the test is parted at a `#` into what `pkg` is set to and a name
pub record IsPartedAt (test pkg name : List ℕ) : Type 0 where
  pub joined : test ≡ pkg ++ byte.hash ∷ name
  pub before : may_set pkg ≡ true
  pub behind : is_bare_name name ≡ true

-- at the first `#` at which it is parted
pub record IsFirstPartedAt (test pkg name : List ℕ) : Type 0 where
  pub parted : IsPartedAt test pkg name
  pub first : (other behind : List ℕ) → length other < length pkg → ¬ IsPartedAt test other behind

-- a test that is a name: an upper case character first, and no white space
pub record IsOwnName (test : List ℕ) : Type 0 where
  pub some : 0 < length test
  pub bare : is_bare_name test ≡ true

-- what `pkg` is set to and the name that a test is written by: a name stands for itself, `#` for nothing, and each
-- other test is parted
pub data IsWrittenBy (test pkg name : List ℕ) : Type 0 where
  lone : test ≡ codes "#" → pkg ≡ [] → name ≡ [] → IsWrittenBy test pkg name
  own : IsOwnName test → pkg ≡ [] → name ≡ test → IsWrittenBy test pkg name
  parted : test ≢ codes "#" → ¬ IsOwnName test → IsFirstPartedAt test pkg name → IsWrittenBy test pkg name

-- the line that sets `pkg`
abbrev pub pkg_line : List ℕ → List ℕ
pkg_line [] = codes "pkg:"
pkg_line (b ∷ pkg) = codes "pkg: " ++ b ∷ pkg

-- the line of a sample: the name, the value, and the metric as its unit
abbrev pub result_line : List ℕ → Measurement → List ℕ
result_line name sample =
    (codes "Benchmark" ++ name) ++ (codes " 1 " ++ (value_text sample.metric sample.value ++ byte.space ∷ sample.metric))

-- the text of a sample: a line that sets `pkg`, and a result line with the value by its metric's decimals
pub record IsSpelling (sample : Measurement) (text : List ℕ) : Type 0 where
  pub pkg : List ℕ
  pub name : List ℕ
  pub written : IsWrittenBy sample.test pkg name
  pub unit : list_all is_black (chars sample.metric) ≡ true
  pub lines : text ≡ pkg_line pkg ++ byte.line_feed ∷ (result_line name sample ++ byte.line_feed ∷ [])

-- the texts of the samples, one behind the other
abbrev pub AreSpelled : List Measurement → List ℕ → Type 0
AreSpelled [] text = text ≡ []
AreSpelled (sample ∷ samples) text =
    (first : List ℕ) × (rest : List ℕ) × (text ≡ first ++ rest) × IsSpelling sample first × AreSpelled samples rest

-- the sample has a text: its test is written by something, and its metric holds no white space
pub record HasSpelling (sample : Measurement) : Type 0 where
  pub pkg : List ℕ
  pub name : List ℕ
  pub written : IsWrittenBy sample.test pkg name
  pub unit : list_all is_black (chars sample.metric) ≡ true

-- what stands at a place behind the last sample
abbrev pub nowhere : Measurement
nowhere = record { test = []; metric = []; value = pos 0 }

-- the sample at this place, from 0, is the first that has no spelling
pub record IsFirstUnspelled (samples : List Measurement) (place : ℕ) : Type 0 where
  pub within : place < length samples
  pub has_none : ¬ HasSpelling (slice_index_or samples place nowhere)
  pub first : (k : ℕ) → k < place → HasSpelling (slice_index_or samples k nowhere)
