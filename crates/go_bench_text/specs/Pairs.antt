-- No public contract cites this. The pairs of a line, as they are read.
use Rattle.std.specs.Prelude.{◌≡◌, ℕ, ◌<◌, ◌≤◌, ◌^◌, List, map, length, All, unsigned_abs}
use Rattle.fixed_value.specs.Numerals.{HasNumeral}
use Rattle.metric_value.specs.Values.{IsValueOf, HasNoneInRange}
use Rattle.sample_model.specs.Samples.{Measurement}
use Rattle.go_bench_text.specs.{Lines.ArePairs, Readings.{PairsGive, HasLarge}, declared.pairs.Pair.Pair, declared.pairs.PairRead.PairRead}
use Rattle.go_bench_text.specs.declared.pairs.PairRead.TheVariants.{InRange, OutOfRange, NoPair}

-- what a sample keeps of its unit and its value
pub record IsPair (pair : Pair) : Type 0 where
  pub some : 0 < length pair.unit.now
  pub short : length pair.unit.now ≤ 64
  pub within : unsigned_abs pair.value ≤ 10 ^ 16

-- the pair of a value and a unit
pub record IsPairOf (value unit : List ℕ) (pair : Pair) : Type 0 where
  pub is : IsPair pair
  pub same : pair.unit.now ≡ unit
  pub numeral : HasNumeral value
  pub gives : IsValueOf unit value pair.value

-- what a value and a unit were read as
abbrev pub IsReadAs : List ℕ → List ℕ → PairRead → Type 0
IsReadAs value unit (InRange pair) = IsPairOf value unit pair
IsReadAs value unit OutOfRange = HasNumeral value × (length unit ≤ 64) × HasNoneInRange unit value
IsReadAs value unit NoPair = HasNumeral value → length unit ≤ 64 → ⊥

-- the sample of a pair
abbrev pub sample_of : List ℕ → Pair → Measurement
sample_of test pair = record { test = test; metric = pair.unit.now; value = pair.value }

-- the samples of pairs, in order
abbrev pub samples_of : List ℕ → List Pair → List Measurement
samples_of test pairs = map (sample_of test) pairs

-- the fields are one or more pairs, all in range, and these are they
pub record ReadsPairs (fields : List (List ℕ)) (pairs : List Pair) : Type 0 where
  pub some : 0 < length fields
  pub paired : ArePairs fields
  pub gives : (test : List ℕ) → PairsGive test fields (samples_of test pairs)
  pub in_range : ¬ HasLarge fields
  pub each : All IsPair pairs
  pub any : 0 < length pairs

-- the fields are pairs, and one has a value out of range
abbrev pub HasLargePair : List (List ℕ) → Type 0
HasLargePair fields = ArePairs fields × HasLarge fields
