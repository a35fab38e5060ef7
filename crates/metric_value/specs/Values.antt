-- The value of a numeral's text by a metric, and the text that is written of a value.
use Rattle.std.specs.Prelude.{◌≡◌, ℕ, ℤ, ◌≤◌, ◌<◌, ◌^◌, List, All, unsigned_abs}
use Rattle.fixed_value.specs.{declared.numeral.Numeral.Numeral, Fixed.{fixed_text, IsFixedByte}, Numerals.IsNumeralText, Scaled.IsScaled}
use Rattle.metric_table.specs.Table.{row_of}

-- the text is a numeral, and this is its value by the metric: in units of the metric's last decimal, rounded to the
-- nearest whole number, halves away from zero; of any magnitude
pub record IsValueOf (metric text : List ℕ) (value : ℤ) : Type 0 where
  pub numeral : Numeral
  pub spells : IsNumeralText text numeral
  pub scales : IsScaled numeral (row_of metric).decimals value

-- the text has a value by the metric, whose magnitude is above 10^16
abbrev pub IsOutOfRange : List ℕ → List ℕ → Type 0
IsOutOfRange metric text = (value : ℤ) × IsValueOf metric text value × (10 ^ 16 < unsigned_abs value)

-- no value of the text by the metric is in range: it is no numeral, or its value's magnitude is above 10^16
abbrev pub HasNoneInRange : List ℕ → List ℕ → Type 0
HasNoneInRange metric text = (value : ℤ) → IsValueOf metric text value → 10 ^ 16 < unsigned_abs value

-- the text of a value, with as many decimals as the metric has
abbrev pub value_text : List ℕ → ℤ → List ℕ
value_text metric value = fixed_text value (row_of metric).decimals

-- the text that is written of a value has this value, and its bytes are a minus, a point and digits
pub record IsReadBackBy (metric : List ℕ) (value : ℤ) : Type 0 where
  pub reads : IsValueOf metric (value_text metric value) value
  pub bytes : All IsFixedByte (value_text metric value)

-- by a metric a text has one value at most
abbrev pub ValueIsOne : Type 0
ValueIsOne = (metric text : List ℕ) (value other : ℤ) → IsValueOf metric text value → IsValueOf metric text other
    → value ≡ other

-- whatever the metric and the value within the limit
abbrev pub ValueIsReadBack : Type 0
ValueIsReadBack = (metric : List ℕ) (value : ℤ) → unsigned_abs value ≤ 10 ^ 16 → IsReadBackBy metric value
