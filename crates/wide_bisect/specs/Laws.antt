-- What holds of every search whose rounds were answered as they were asked.
use Rattle.std.specs.Prelude.{◌≡◌, ◌⊎◌, ℕ, ◌+◌, ◌-◌, ◌*◌, ◌/◌, ◌^◌, ◌<◌, ◌≤◌, not, ◌==◌, if◌then◌else◌, List, [], ◌∷◌, ◌++◌, length, Option, None, filter, All, Contains}
use Rattle.std.specs.List.{range_with_len, Sorted.IsStrictlyIncreasing}
use Rattle.wide_bisect.specs.declared.{said.Said.Said, outcome.WideOutcome.TheVariants.{Asks, Found}}
use Rattle.wide_bisect.specs.Answers.{good_places, bad_places, skipped_places, ending, is_among}
use Rattle.wide_bisect.specs.Searches.{Search, begun, asks, asked, said_of, after, after_all}

-- what was said in some rounds, in order
abbrev pub all_said : Search → List (List (Option ℕ)) → List Said
all_said s [] = []
all_said s (statuses ∷ rounds) = said_of s statuses ++ all_said (after s statuses) rounds

-- 1 for a round with an answer 125
abbrev pub one_if_skipped : List Said → ℕ
one_if_skipped said = if length (skipped_places said) == 0 then 0 else 1

-- how many rounds had an answer 125
abbrev pub skipping : Search → List (List (Option ℕ)) → ℕ
skipping s [] = 0
skipping s (statuses ∷ rounds) = one_if_skipped (said_of s statuses) + skipping (after s statuses) rounds

-- each round answers what the search asks after the rounds before it
abbrev pub AreTaken : Search → List (List (Option ℕ)) → Type 0
AreTaken s [] = Unit {0}
AreTaken s (statuses ∷ rounds) = (s.outcome ≡ Asks) × (length statuses ≡ asks s) × AreTaken (after s statuses) rounds

-- what a search can begin with
pub record CanBegin (n k : ℕ) : Type 0 where
  pub some : 1 ≤ n
  pub few : n ≤ 65_535
  pub one : 1 ≤ k
  pub eight : k ≤ 8

-- the places strictly between two others that were not answered 125
abbrev pub testable_between : ℕ → ℕ → List Said → List ℕ
testable_between low high said =
    filter (λ place. not (is_among place (skipped_places said))) (range_with_len (low + 1) (high - low - 1))

-- low is the first place or was answered good, high is the last place or was answered bad
abbrev pub EndsWereAnswered : Type 0
EndsWereAnswered =
    (n k : ℕ) (rounds : List (List (Option ℕ))) → CanBegin n k → AreTaken (begun n k) rounds
    → (((after_all (begun n k) rounds).low ≡ 0) ⊎ Contains (good_places (all_said (begun n k) rounds)) (after_all (begun n k) rounds).low)
    × (((after_all (begun n k) rounds).high ≡ n) ⊎ Contains (bad_places (all_said (begun n k) rounds)) (after_all (begun n k) rounds).high)

-- where nothing ended it, the open places are those between the ends that were not answered 125
abbrev pub OpenAreTestable : Type 0
OpenAreTestable =
    (n k : ℕ) (rounds : List (List (Option ℕ))) → CanBegin n k → AreTaken (begun n k) rounds
    → ending (all_said (begun n k) rounds) ≡ None
    → (after_all (begun n k) rounds).left
    ≡ testable_between (after_all (begun n k) rounds).low (after_all (begun n k) rounds).high (all_said (begun n k) rounds)

-- what is found is its ends, and each place between them was answered 125
abbrev pub FoundAreNeighbours : Type 0
FoundAreNeighbours =
    (n k : ℕ) (rounds : List (List (Option ℕ))) (lo hi skipped : ℕ) → CanBegin n k → AreTaken (begun n k) rounds
    → (after_all (begun n k) rounds).outcome ≡ Found lo hi skipped
    → (lo ≡ (after_all (begun n k) rounds).low) × (hi ≡ (after_all (begun n k) rounds).high) × (lo + skipped + 1 ≡ hi)
    × ((place : ℕ) → lo < place → place < hi → Contains (skipped_places (all_said (begun n k) rounds)) place)

-- with r rounds, of which x had an answer 125, and m open places: m * (k + 1) ^ (r - x) is at most n - 1 while it runs,
-- (k + 1) ^ (r - x) at most (k + 1) * n when it is found, and x at most the number of answers 125
pub record IsWithinBound (n k m r x y : ℕ) (s : Search) : Type 0 where
  pub counted : s.rounds ≡ r
  pub some : x ≤ y
  pub running : s.outcome ≡ Asks → m * (k + 1) ^ (r - x) ≤ n - 1
  pub found : (lo hi skipped : ℕ) → s.outcome ≡ Found lo hi skipped → (k + 1) ^ (r - x) ≤ (k + 1) * n

abbrev pub EachIsWithinBound : Type 0
EachIsWithinBound =
    (n k : ℕ) (rounds : List (List (Option ℕ))) → CanBegin n k → AreTaken (begun n k) rounds
    → IsWithinBound n k (length (after_all (begun n k) rounds).left) (length rounds) (skipping (begun n k) rounds)
    (length (skipped_places (all_said (begun n k) rounds))) (after_all (begun n k) rounds)

-- one at a time, while none is passed over, it asks the place half way, as a plain bisection does
abbrev pub OneIsHalfWay : Type 0
OneIsHalfWay =
    (n : ℕ) (rounds : List (List (Option ℕ))) → CanBegin n 1 → AreTaken (begun n 1) rounds
    → skipped_places (all_said (begun n 1) rounds) ≡ []
    → (after_all (begun n 1) rounds).outcome ≡ Asks
    → asked (after_all (begun n 1) rounds)
    ≡ ((after_all (begun n 1) rounds).low + ((after_all (begun n 1) rounds).high - (after_all (begun n 1) rounds).low) / 2) ∷ []

-- the places of the next round rise, and each is open and stands strictly between the first place and the last
pub record AsksOpen (n : ℕ) (s : Search) : Type 0 where
  pub rising : IsStrictlyIncreasing (asked s)
  pub among : All (Contains s.left) (asked s)
  pub within : All (λ place. (0 < place) × (place < n)) (asked s)

abbrev pub EachAsksOpen : Type 0
EachAsksOpen =
    (n k : ℕ) (rounds : List (List (Option ℕ))) → CanBegin n k → AreTaken (begun n k) rounds
    → AsksOpen n (after_all (begun n k) rounds)

-- after each round fewer places are open, while the search runs
abbrev pub EachTakesAway : Type 0
EachTakesAway =
    (n k : ℕ) (rounds : List (List (Option ℕ))) (statuses : List (Option ℕ)) → CanBegin n k → AreTaken (begun n k) rounds
    → (after_all (begun n k) rounds).outcome ≡ Asks → (after (after_all (begun n k) rounds) statuses).outcome ≡ Asks
    → length (after (after_all (begun n k) rounds) statuses).left < length (after_all (begun n k) rounds).left
