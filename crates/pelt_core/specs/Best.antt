-- No public contract cites this. The cut list that a table of last cuts gives.
use Rattle.std.specs.Prelude.{◌≡◌, ℕ, ℤ}
use Rattle.segment_model.specs.Cuts.{IsBest, total}
use Rattle.pelt_core.specs.declared.table.Best.{Best}

-- the cuts are the best cut list of n positions, with its total
pub record IsBestOf (cost : ℕ → ℕ → ℤ) (n : ℕ) (penalty : ℤ) (len : ℕ) (best : Best) : Type 0 where
  pub cuts : IsBest cost penalty len n best.cuts.items
  pub totalled : best.total ≡ total cost penalty n best.cuts.items
