-- No public contract cites this. Positions in slots, and their order as a list of slots.
use Rattle.std.specs.Prelude.{◌≡◌, ◌≢◌, ℕ, ◌<◌, ◌≤◌, ◌==◌, if◌then◌else◌, List, [], ◌∷◌, length, map, slice_index_or}
use Rattle.segment_model.specs.Segments.{Position}

-- the position in a slot; where there is no such slot it means nothing
abbrev pub in_slot : List Position → ℕ → Position
in_slot slots s = slice_index_or slots s (record { commit = 0; samples = [] })

-- the positions in order
abbrev pub in_order : List Position → List ℕ → List Position
in_order slots order = map (in_slot slots) order

-- no slot of the list reaches so far
abbrev pub AreBelow : ℕ → List ℕ → Type 0
AreBelow n [] = Unit {0}
AreBelow n (s ∷ order) = (s < n) × AreBelow n order

-- the slot is not in the list
abbrev pub IsMissing : ℕ → List ℕ → Type 0
IsMissing s [] = Unit {0}
IsMissing s (t ∷ order) = (t ≢ s) × IsMissing s order

-- no slot is twice in the list
abbrev pub AreOnce : List ℕ → Type 0
AreOnce [] = Unit {0}
AreOnce (s ∷ order) = IsMissing s order × AreOnce order

-- each of few slots is in the list once
pub record IsOrder (slots : List Position) (order : List ℕ) : Type 0 where
  pub few : length slots ≤ 16_384
  pub as_many : length order ≡ length slots
  pub below : AreBelow (length slots) order
  pub once : AreOnce order

-- a slot by its new name, where it is the one that gets one
abbrev pub renamed : ℕ → ℕ → ℕ → ℕ
renamed from to s = if s == from then to else s
