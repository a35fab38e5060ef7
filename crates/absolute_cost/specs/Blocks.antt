-- No public contract cites this. Values of which each whole block of 32 stands in order.
use Rattle.std.specs.Prelude.{◌≡◌, ℕ, ℤ, ◌+◌, ◌*◌, ◌%◌, ◌<◌, ◌≤◌, List, ◌++◌, length, take, drop, slice_index_or, sum_by, ◌≤ℤ◌}

-- none comes before a smaller one
abbrev pub AreInOrder : List ℤ → Type 0
AreInOrder xs = (i j : ℕ) (d : ℤ) → i ≤ j → j < length xs → slice_index_or xs i d ≤ℤ slice_index_or xs j d

-- a block, by its number
abbrev pub block : ℕ → List ℤ → List ℤ
block k xs = take 32 (drop (32 * k) xs)

-- whole blocks, each in order
pub record AreBlocks (xs : List ℤ) : Type 0 where
  pub whole : length xs % 32 ≡ 0
  pub ordered : (k : ℕ) → 32 * k + 32 ≤ length xs → AreInOrder (block k xs)

-- the same values in another order: each sum over them is the same
abbrev pub HaveSameSums : List ℤ → List ℤ → Type 0
HaveSameSums xs ys = (f : ℤ → ℕ) → sum_by f xs ≡ sum_by f ys

-- the first blocks of some values, each in order
pub record AreBlocksOf (values sorted : List ℤ) : Type 0 where
  pub blocks : AreBlocks sorted
  pub within : length sorted ≤ length values
  pub same : (k : ℕ) → 32 * k + 32 ≤ length sorted → HaveSameSums (block k values) (block k sorted)

-- one block more at the end
pub record IsAdded (before values after : List ℤ) : Type 0 where
  pub count : length after ≡ length before + length values
  pub front : take (length before) after ≡ before
  pub same : HaveSameSums values (drop (length before) after)
  pub ordered : AreInOrder (drop (length before) after)

-- the same values up to an index, and those from it on in order
pub record IsSortedFrom (start : ℕ) (before after : List ℤ) : Type 0 where
  pub count : length after ≡ length before
  pub front : take start after ≡ take start before
  pub same : HaveSameSums (drop start before) (drop start after)
  pub ordered : AreInOrder (drop start after)

-- three pieces, one after the other
abbrev pub all_of : List ℤ → List ℤ → List ℤ → List ℤ
all_of head whole tail = head ++ (whole ++ tail)
