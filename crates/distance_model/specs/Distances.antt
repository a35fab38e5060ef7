-- The sum of the distances of some values from a whole number, the centre about which it is least, and the cost by it.
use Rattle.std.specs.Prelude.{◌≡◌, ℕ, ℤ, ◌-◌, ◌/◌, ◌<◌, ◌≤◌, if◌then◌else◌, List, [], ◌∷◌, length, slice_index_or, sum_by, unsigned_abs, int_le, pos, ◌-ℤ◌, ◌<ℤ◌, ◌≤ℤ◌}
use Rattle.segment_model.specs.Segments.{Position, segment}

-- the magnitude of x - c
abbrev pub distance : ℤ → ℤ → ℕ
distance c x = unsigned_abs (x -ℤ c)

-- the distances of some values from c, added up
abbrev pub distances_about : ℤ → List ℤ → ℕ
distances_about c xs = sum_by (distance c) xs

-- of the whole numbers about which that sum is least, c is the smallest
pub record IsAbsoluteCentre (xs : List ℤ) (c : ℤ) : Type 0 where
  pub least : (d : ℤ) → distances_about c xs ≤ distances_about d xs
  pub smallest : (d : ℤ) → d <ℤ c → distances_about c xs < distances_about d xs

-- k is the sum about some whole number, and no other whole number's sum is below k
pub record IsLeastDistances (xs : List ℤ) (k : ℤ) : Type 0 where
  pub centre : ℤ
  pub reached : pos (distances_about centre xs) ≡ k
  pub least : (d : ℤ) → k ≤ℤ pos (distances_about d xs)

-- cost gives each segment of the points its least sum of distances
abbrev pub IsAbsoluteCost : List Position → (ℕ → ℕ → ℤ) → Type 0
IsAbsoluteCost points cost = (s t : ℕ) → s ≤ t → t ≤ length points → IsLeastDistances (segment points s t) (cost s t)

-- ---- as it is computed

-- a value put before the first of rising values that is no smaller
abbrev pub in_place : ℤ → List ℤ → List ℤ
in_place x [] = x ∷ []
in_place x (y ∷ ys) = if int_le x y then x ∷ y ∷ ys else y ∷ in_place x ys

-- the values in rising order
abbrev pub in_order : List ℤ → List ℤ
in_order [] = []
in_order (x ∷ xs) = in_place x (in_order xs)

-- the one in the middle, or the lower of two; 0 where there are no values
unfoldable pub middle_of : List ℤ → ℤ
middle_of xs = slice_index_or (in_order xs) ((length xs - 1) / 2) (pos 0)

-- the sum of distances about it
unfoldable pub least_distances_of : List ℤ → ℤ
least_distances_of xs = pos (distances_about (middle_of xs) xs)

-- ---- laws

-- the middle is the centre
abbrev pub MiddleIsCentre : Type 0
MiddleIsCentre = (xs : List ℤ) → 0 < length xs → IsAbsoluteCentre xs (middle_of xs)

abbrev pub CentreIsUnique : Type 0
CentreIsUnique = (xs : List ℤ) (c d : ℤ) → IsAbsoluteCentre xs c → IsAbsoluteCentre xs d → d ≡ c

abbrev pub LeastIsComputed : Type 0
LeastIsComputed = (xs : List ℤ) → IsLeastDistances xs (least_distances_of xs)
