-- What holds of every bisection whose places were said of as they were asked.
use Rattle.std.specs.Prelude.{◌≡◌, ◌⊎◌, ℕ, ◌+◌, ◌<◌, ◌≤◌, Bool, true, false, List, ◌∷◌, ◌++◌, Contains}
use Rattle.bisect_core.specs.{declared.outcome.Outcome.TheVariants.{Asks, Found}, Turns.{Turn, place_of, good_places, bad_places}, Bounds.IsWithinBound}
use Rattle.bisect_core.specs.Bisections.{low_after, high_after, questions_after, outcome_after}

-- each turn is of the place that is asked after the turns before it
abbrev pub AreAsked : ℕ → List Turn → Type 0
AreAsked n turns =
    (before : List Turn) (turn : Turn) (behind : List Turn)
    → turns ≡ before ++ turn ∷ behind → outcome_after n before ≡ Asks (place_of turn)

-- after any list of turns that were asked, the ends are within the bound
abbrev pub EachIsWithinBound : Type 0
EachIsWithinBound =
    (n : ℕ) (turns : List Turn) → 1 ≤ n → AreAsked n turns
    → IsWithinBound n (low_after turns) (high_after n turns) (questions_after turns)

-- low is the first place or was answered good, high is the last place or was answered bad
abbrev pub EndsWereAnswered : Type 0
EndsWereAnswered =
    (n : ℕ) (turns : List Turn)
    → ((low_after turns ≡ 0) ⊎ Contains (good_places turns) (low_after turns))
    × ((high_after n turns ≡ n) ⊎ Contains (bad_places turns) (high_after n turns))

-- a naming of the places as bad or good that agrees with the ends and the answers, and has no good place behind a bad one
pub record Agrees (n : ℕ) (turns : List Turn) (is_bad_place : ℕ → Bool) : Type 0 where
  pub first : is_bad_place 0 ≡ false
  pub last : is_bad_place n ≡ true
  pub good : (place : ℕ) → Contains (good_places turns) place → is_bad_place place ≡ false
  pub bad : (place : ℕ) → Contains (bad_places turns) place → is_bad_place place ≡ true
  pub rising : (one other : ℕ) → one ≤ other → other ≤ n → is_bad_place one ≡ true → is_bad_place other ≡ true

-- what is found is two neighbours, and in each such naming the higher one is the first bad place
abbrev pub FoundIsFirstBad : Type 0
FoundIsFirstBad =
    (n : ℕ) (turns : List Turn) (lo hi : ℕ) → outcome_after n turns ≡ Found lo hi
    → (hi ≡ lo + 1)
    × ((is_bad_place : ℕ → Bool) → Agrees n turns is_bad_place
    → (is_bad_place hi ≡ true) × ((place : ℕ) → place < hi → is_bad_place place ≡ false))
