-- What holds of best cut lists at several penalties, for one least length of segments, and of paths.
use Rattle.std.specs.Prelude.{◌≡◌, ℕ, ℤ, ◌≤◌, max, List, length, ◌≤ℤ◌}
use Rattle.segment_model.specs.{Segments.Position, Cuts.IsBest}
use Rattle.penalty_path.specs.{declared.stretch.Stretch.Stretch, Paths.IsPath}

-- the number of cuts never rises with the penalty
abbrev pub CutsFall : Type 0
CutsFall =
    (cost : ℕ → ℕ → ℤ) (len n : ℕ) (b c : ℤ) (cuts others : List ℕ) → IsBest cost b len n cuts → IsBest cost c len n others
    → b ≤ℤ c → length others ≤ length cuts

-- two penalties whose best cut lists have equally many cuts have the same list
abbrev pub CountIsList : Type 0
CountIsList =
    (cost : ℕ → ℕ → ℤ) (len n : ℕ) (b c : ℤ) (cuts others : List ℕ) → IsBest cost b len n cuts → IsBest cost c len n others
    → length others ≡ length cuts → others ≡ cuts

-- a list that is the best at two penalties is the best at each between them
abbrev pub BetweenIsSame : Type 0
BetweenIsSame =
    (cost : ℕ → ℕ → ℤ) (len n : ℕ) (b c between : ℤ) (cuts : List ℕ) → IsBest cost b len n cuts → IsBest cost c len n cuts
    → b ≤ℤ between → between ≤ℤ c → IsBest cost between len n cuts

-- no points have two paths over a range of penalties
abbrev pub PathIsUnique : Type 0
PathIsUnique =
    (points : List Position) (low high : ℤ) (one other : List Stretch) → IsPath points low high one
    → IsPath points low high other → one ≡ other

-- a path has at most as many stretches as there are positions, or one
abbrev pub PathIsShort : Type 0
PathIsShort =
    (points : List Position) (low high : ℤ) (stretches : List Stretch) → IsPath points low high stretches
    → length stretches ≤ max 1 (length points)
