-- A text has one value by a metric, and what is written is read back.
use Rattle.std.proofs.{Common.{ℕ, ℤ, ◌≤◌, List, subst, arith}, lemmas.Bool.Decides.nat_tests}
use Rattle.fixed_value.specs.{declared.numeral.Numeral.Numeral, Numerals.{IsNumeralText, NumeralIsOne}, Scaled.{IsScaled, ScaledIsOne}, Fixed.FixedIsReadBack}
use Rattle.metric_table.specs.Table.{row_of}
use Rattle.metric_value.specs.Values.{IsValueOf, ValueIsOne, ValueIsReadBack}

-- a value is that of the one numeral
pub value-of_numeral : NumeralIsOne → (metric text : List ℕ) (numeral : Numeral) (value : ℤ) → IsNumeralText text numeral
    → IsValueOf metric text value → IsScaled numeral (row_of metric).decimals value
value-of_numeral one metric text numeral value reads is =
    subst (λ (n : Numeral). IsScaled n (row_of metric).decimals value)
    (one text is.numeral numeral is.spells reads) is.scales

pub one_value : NumeralIsOne → ScaledIsOne → ValueIsOne
one_value numerals scaled metric text value other is also =
    scaled is.numeral (row_of metric).decimals value other is.scales
    (value-of_numeral numerals metric text is.numeral other is.spells also)

-- no metric has more than nine decimals
few_decimals : (metric : List ℕ) → (row_of metric).decimals ≤ 9
few_decimals metric = grind (arith, nat_tests)

pub read_back : FixedIsReadBack → ValueIsReadBack
read_back law metric value small =
    let back = law value (row_of metric).decimals small (few_decimals metric) in
    record { reads = record { numeral = back.numeral; spells = back.reads; scales = back.scales }; bytes = back.bytes }
