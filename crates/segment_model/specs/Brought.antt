-- The positions of some values, however they came: one for each commit, in rising order.
use Rattle.std.specs.Prelude.{◌≡◌, ℕ, ℤ, ◌==◌, nat_lt, if◌then◌else◌, List, [], ◌∷◌, length, map, filter}
use Rattle.segment_model.specs.Segments.{Observation, Position, values_of}

-- a value of a series: its commit, the step that brought it, and what it is
pub record Brought : Type 0 where
  pub commit : ℕ
  pub step : ℕ
  pub value : ℤ

-- the number in its place of a rising list, once
abbrev pub in_place : ℕ → List ℕ → List ℕ
in_place c [] = c ∷ []
in_place c (d ∷ ds) = if nat_lt c d then c ∷ d ∷ ds else (if d == c then d ∷ ds else d ∷ in_place c ds)

-- the numbers in rising order, each once
abbrev pub rising : List ℕ → List ℕ
rising [] = []
rising (c ∷ cs) = in_place c (rising cs)

-- what was brought at a commit, as a position
abbrev pub position_at : List Brought → ℕ → Position
position_at items commit =
    record { commit = commit; samples = map (λ (x : Brought). record { step = x.step; value = x.value }) (filter (λ (x : Brought). x.commit == commit) items) }

-- a position for each commit, in rising order
abbrev pub positions_of : List Brought → List Position
positions_of items = map (position_at items) (rising (map (λ (x : Brought). x.commit) items))

-- what was brought, without its commit
abbrev pub observed : Brought → Observation
observed x = record { step = x.step; value = x.value }

-- positions have as many values as were brought
abbrev pub ValuesAreBrought : Type 0
ValuesAreBrought = (items : List Brought) → length (values_of (positions_of items)) ≡ length items
