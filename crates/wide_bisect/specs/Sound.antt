-- No public contract cites this. What every search by rounds keeps.
use Rattle.std.specs.{Prelude.{◌≡◌, ℕ, ◌+◌, ◌<◌, ◌≤◌, List, length, All, Option, None}, List.Sorted.IsStrictlyIncreasing}
use Rattle.wide_bisect.specs.{declared.said.Said.Said, declared.outcome.WideOutcome.TheVariants.Asks, Answers.ending, Searches.{Search, said_of}}

-- a place strictly between two others
abbrev pub IsBetween : ℕ → ℕ → ℕ → Type 0
IsBetween low high place = (low < place) × (place < high)

pub record IsSound (s : Search) : Type 0 where
  pub some : 1 ≤ s.width
  pub few : s.width ≤ 8
  pub apart : s.low < s.high
  pub last : s.high ≤ 65_535
  pub between : All (IsBetween s.low s.high) s.left
  pub rising : IsStrictlyIncreasing s.left
  -- each round takes away an open place, at least
  pub counted : s.outcome ≡ Asks → s.rounds + length s.left ≤ 65_535
  pub asking : s.outcome ≡ Asks → 1 ≤ length s.left

-- what was said in a round that goes on
pub record GoesOn (s : Search) (said : List Said) : Type 0 where
  pub running : s.outcome ≡ Asks
  pub statuses : List (Option ℕ)
  pub of_round : said ≡ said_of s statuses
  pub no_end : ending said ≡ None
