-- Private: the invariant of the type alone cites this. What every bisection keeps.
use Rattle.std.specs.{Prelude.{◌≡◌, ℕ, ◌+◌, ◌^◌, ◌<◌, true, List, length, slice_index, Some}, List.Sorted.IsStrictlyIncreasing}
use Rattle.bisect_core.specs.{Bisections.{Bisection, between, is_open}, Bounds.IsWithinBound}

-- the commits of an open one rise, and those of its ends stand there
pub record IsListed (b : Bisection) (commits : List ℕ) : Type 0 where
  pub list : b.commits ≡ Some commits
  pub rising : IsStrictlyIncreasing commits
  pub count : length commits ≡ b.range + 1
  pub low : b.low_commit ≡ slice_index commits b.low
  pub high : b.high_commit ≡ slice_index commits b.high

pub record IsSound (b : Bisection) : Type 0 where
  pub bound : IsWithinBound b.range b.low b.high b.questions
  pub small : b.range < 2 ^ 64
  pub ends : b.low_commit < b.high_commit
  pub asks : is_open b.outcome ≡ true → b.outcome ≡ between b.low b.high
  pub listed : is_open b.outcome ≡ true → (commits : List ℕ) × IsListed b commits
