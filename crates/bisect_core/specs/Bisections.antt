-- A bisection of a list of commits: what is known of it after what was said of its places. Places count from 0.
use Rattle.std.specs.Prelude.{◌≡◌, ℕ, ◌+◌, ◌-◌, ◌/◌, Bool, true, false, ◌==◌, if◌then◌else◌, List, [], ◌∷◌, ◌++◌, length, slice_index, Option, Some, None, option_map}
use Rattle.bisect_core.specs.declared.outcome.{Outcome.Outcome, Outcome.TheVariants.{Asks, Found, Undecided, Faulted}, Answered.Answered}
use Rattle.bisect_core.specs.declared.outcome.Answered.TheVariants as answered
use Rattle.bisect_core.specs.Turns.{Turn, tested, given_up, place_of, good_places, bad_places, ending, greatest, least}

-- the greatest of 0 and the places answered good
abbrev pub low_after : List Turn → ℕ
low_after turns = greatest (good_places turns)

-- the least of the last place and the places answered bad
abbrev pub high_after : ℕ → List Turn → ℕ
high_after n turns = least n (bad_places turns)

-- how many answers were good or bad
abbrev pub questions_after : List Turn → ℕ
questions_after turns = length (good_places turns) + length (bad_places turns)

-- neighbours are found; between others the place half way is asked, rounded down
abbrev pub between : ℕ → ℕ → Outcome
between low high = if high == low + 1 then Found low high else Asks (low + (high - low) / 2)

-- how a turn ended it
abbrev pub end_by : Turn → Outcome
end_by (tested place status) = Undecided place status
end_by (given_up place) = Faulted place

-- how it ended, or what it found or asks
abbrev pub outcome_by : Option Turn → ℕ → ℕ → Outcome
outcome_by None low high = between low high
outcome_by (Some turn) low high = end_by turn

abbrev pub outcome_after : ℕ → List Turn → Outcome
outcome_after n turns = outcome_by (ending turns) (low_after turns) (high_after n turns)

abbrev pub is_open : Outcome → Bool
is_open (Asks place) = true
is_open (Found lo hi) = false
is_open (Undecided place status) = false
is_open (Faulted place) = false

-- what is known of a bisection
pub record Bisection : Type 0 where
  -- its commits while it is open; a closed one keeps none
  pub commits : Option (List ℕ)
  -- one less than the number of its commits, which is its last place
  pub range : ℕ
  pub low : ℕ
  pub high : ℕ
  pub questions : ℕ
  pub outcome : Outcome
  -- the commits at low and at high, and at the place whose turn ended it
  pub low_commit : ℕ
  pub high_commit : ℕ
  pub end_commit : Option ℕ

-- one of these commits with these ends, so many questions, and the turn that ended it, if there is one
abbrev pub standing : List ℕ → ℕ → ℕ → ℕ → Option Turn → Bisection
standing commits low high questions end = record {
  commits = if is_open (outcome_by end low high) then Some commits else None;
  range = length commits - 1;
  low = low;
  high = high;
  questions = questions;
  outcome = outcome_by end low high;
  low_commit = slice_index commits low;
  high_commit = slice_index commits high;
  end_commit = option_map (λ turn. slice_index commits (place_of turn)) end;
}

-- a bisection of these commits after these turns
abbrev pub bisection : List ℕ → List Turn → Bisection
bisection commits turns =
    standing commits (low_after turns) (high_after (length commits - 1) turns) (questions_after turns) (ending turns)

-- what is answered to one that says something of a place
abbrev pub answer_to : Outcome → ℕ → Answered
answer_to (Asks asked) place = if asked == place then answered.Ok else answered.NotAsked asked
answer_to (Found lo hi) place = answered.Closed (Found lo hi)
answer_to (Undecided at status) place = answered.Closed (Undecided at status)
answer_to (Faulted at) place = answered.Closed (Faulted at)

-- the place that is asked, if it is open
abbrev pub asked_by : Outcome → Option ℕ
asked_by (Asks place) = Some place
asked_by (Found lo hi) = None
asked_by (Undecided place status) = None
asked_by (Faulted place) = None

-- one more turn is recorded: whatever commits and turns the bisection is of, it is of that turn behind them
abbrev pub IsRecorded : Turn → Bisection → Bisection → Type 0
IsRecorded turn before after =
    (commits : List ℕ) (turns : List Turn) → before ≡ bisection commits turns → after ≡ bisection commits (turns ++ turn ∷ [])

-- the commit at a place of the list, where it is kept
abbrev pub IsCommitAt : Option (List ℕ) → ℕ → ℕ → Type 0
IsCommitAt kept place commit = (commits : List ℕ) → kept ≡ Some commits → commit ≡ slice_index commits place
