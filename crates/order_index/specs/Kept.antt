-- No public contract cites this. What an index of commits keeps.
use Rattle.std.specs.{Prelude.{◌≡◌, ℕ, ◌<◌, ◌≤◌, List, [], ◌∷◌, map, Option, Some, None}, List.{position_from, AllByRecursion}, Ordering.nat_cmp}
use Rattle.std.specs.BTreeMap.{BTreeMap, get as at_number}
use Rattle.history_model.specs.{declared.entries.Declaration.Declaration, Commits.has_number}
use Rattle.order_index.specs.Judged.{AreApart}

-- their names, in the order of declaration
abbrev pub names_of : List Declaration → List (List ℕ)
names_of commits = map (λ (d : Declaration). d.name) commits

-- their numbers, in the order of declaration
abbrev pub numbers_of : List Declaration → List ℕ
numbers_of commits = map (λ (d : Declaration). d.number) commits

-- each number is below this one
abbrev pub AreBelow : ℕ → List Declaration → Type 0
AreBelow number commits = AllByRecursion (λ (d : Declaration). d.number < number) commits

-- no number is below this one
abbrev pub AreFrom : ℕ → List Declaration → Type 0
AreFrom number commits = AllByRecursion (λ (d : Declaration). number ≤ d.number) commits

-- each number is above this one
abbrev pub AreAbove : ℕ → List Declaration → Type 0
AreAbove number commits = AllByRecursion (λ (d : Declaration). number < d.number) commits

-- each number is below those after it
abbrev pub IsRising : List Declaration → Type 0
IsRising [] = Unit {0}
IsRising (d ∷ commits) = AreAbove d.number commits × IsRising commits

-- the map leads from each number to the place of its declaration
abbrev pub ArePlaced : List Declaration → BTreeMap ℕ ℕ → Type 0
ArePlaced commits places =
    (n : ℕ) → at_number nat_cmp places n ≡ position_from (has_number n) 0 commits

-- what finds a declaration by its number: a map, or else the rise of the numbers
abbrev pub AreFound : List Declaration → Option (BTreeMap ℕ ℕ) → Type 0
AreFound commits (Some places) = ArePlaced commits places
AreFound commits None = IsRising commits

-- the names are those of the declarations, which are apart, and each is found by its number
pub record Keeps (commits : List Declaration) (keys : List (List ℕ))
    (by_number : Option (BTreeMap ℕ ℕ)) : Type 0 where
  pub names : keys ≡ names_of commits
  pub numbers : AreFound commits by_number
  pub apart : AreApart commits
