-- No public contract cites this. Counts and sums that are stored apart.
use Rattle.std.specs.Prelude.{ℕ, List, [], ◌∷◌}
use Rattle.prefix_sums.specs.declared.{sums.Sums.Sums, sum_list.Totals.Totals}

-- sums, and how many more there is room for
pub record Listed : Type 0 where
  pub items : List Sums
  pub spare : ℕ

-- counts and sums side by side
abbrev pub sums_in : List ℕ → List Totals → List Sums
sums_in [] totals = []
sums_in (n ∷ counts) [] = []
sums_in (n ∷ counts) (t ∷ totals) = record { count = n; sum = t.sum; squares = t.squares } ∷ sums_in counts totals
