-- The table of metrics: their decimals, their direction and their default penalty.
use Rattle.std.specs.Prelude.{ℕ, ℤ, ◌^◌, ◌≤ℤ◌, Bool, true, false, List, [], ◌∷◌, codes, pos, bytes_eq, if◌then◌else◌}

-- a metric's name, how many decimals its values are scaled by, whether larger is better, and the penalty of a cut in
-- squared scaled units where none was set
pub record Row : Type 0 where
  pub metric : List ℕ
  pub decimals : ℕ
  pub larger_is_better : Bool
  pub default_penalty : ℤ

-- the row with these columns
abbrev pub row : List ℕ → ℕ → Bool → ℤ → Row
row metric decimals larger penalty = record { metric = metric; decimals = decimals; larger_is_better = larger; default_penalty = penalty }

-- the metrics that have a row of their own
abbrev pub known : List Row
known =
    row (codes "ns/op") 4 false (pos 2_500_000_000)
    ∷ row (codes "MB/s") 4 true (pos 2_500_000_000)
    ∷ row (codes "B/op") 0 false (pos 25)
    ∷ row (codes "allocs/op") 0 false (pos 25)
    ∷ row (codes "execution_time") 9 false (pos 10_000_000_000_000_000)
    ∷ row (codes "compile_time") 9 false (pos 10_000_000_000_000_000)
    ∷ row (codes "code_size") 0 false (pos 25)
    ∷ []

-- the row of every other metric
abbrev pub other : List ℕ → Row
other metric = row metric 4 false (pos 2_500_000_000)

-- the row of that name, and that of all others where none has it
abbrev pub row_in : List Row → List ℕ → Row
row_in [] metric = other metric
row_in (r ∷ rows) metric = if bytes_eq metric r.metric then r else row_in rows metric

-- the metric's row
abbrev pub row_of : List ℕ → Row
row_of metric = row_in known metric

-- a penalty that a metric may be given: from 0 to 10^36
abbrev pub IsPenalty : ℤ → Type 0
IsPenalty penalty = (pos 0 ≤ℤ penalty) × (penalty ≤ℤ pos (10 ^ 36))
