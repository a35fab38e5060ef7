-- What contracts see of a pruned table.
use Rattle.std.specs.Prelude.{ℕ, ℤ, List}

-- positions as the lists of their values, the penalty of a cut and the least length of a segment
pub record Tabled : Type 0 where
  pub positions : List (List ℤ)
  pub penalty : ℤ
  pub length : ℕ

-- the table of some positions, with a penalty and a least length
abbrev pub table_of : List (List ℤ) → ℤ → ℕ → Tabled
table_of positions penalty len = record { positions = positions; penalty = penalty; length = len }
