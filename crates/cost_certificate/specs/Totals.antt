-- No public contract cites this. Least totals, and costs of segments, in their ranges.
use Rattle.std.specs.Prelude.{ℕ, ℤ, ◌^◌, ◌<◌, ◌≤◌, List, length, pos, neg_ℤ, ◌≤ℤ◌}
use Rattle.segment_model.specs.Tables.{int_at}

-- each number is such as a least total can be, or minus a penalty
abbrev pub AreTotals : List ℤ → Type 0
AreTotals least =
    (s : ℕ) → s < length least → (neg_ℤ (pos (10 ^ 36)) ≤ℤ int_at least s) × (int_at least s ≤ℤ pos (10 ^ 37))

-- the costs of the segments up to place n are in their range
abbrev pub AreCosts : (ℕ → ℕ → ℤ) → ℕ → Type 0
AreCosts cost n = (s t : ℕ) → s ≤ t → t ≤ n → (pos 0 ≤ℤ cost s t) × (cost s t ≤ℤ pos (10 ^ 37))
