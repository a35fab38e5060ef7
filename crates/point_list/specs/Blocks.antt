-- No public contract cites this. Positions in blocks of one length, and what tells one block from another.
use Rattle.std.specs.Prelude.{◌≡◌, ℕ, ℤ, ◌*◌, ◌≤◌, List, [], ◌∷◌, ◌++◌, length, take}
use Rattle.segment_model.specs.Segments.{Position, values_of}

-- of each position its commit, and how many values it has
abbrev pub heads_of : List Position → List ℕ
heads_of [] = []
heads_of (p ∷ points) = p.commit ∷ length p.samples ∷ heads_of points

-- these are the heads of the positions, and their values
abbrev pub AreTold : List Position → List ℕ → List ℤ → Type 0
AreTold points heads values = (heads ≡ heads_of points) × (values ≡ values_of points)

-- the positions of some blocks, one block after the other
abbrev pub joined : {A : Type 0} → (A → List Position) → List A → List Position
joined view [] = []
joined view (b ∷ blocks) = view b ++ joined view blocks

-- each block has as many positions as it may have
abbrev pub AreFull : {A : Type 0} → (A → List Position) → List A → Type 0
AreFull view [] = Unit {0}
AreFull view (b ∷ blocks) = (length (view b) ≡ 128) × AreFull view blocks

-- they are full blocks of the first positions
pub record IsFront {A : Type 0} (view : A → List Position) (blocks : List A) (points : List Position) : Type 0 where
  pub full : AreFull view blocks
  pub same : joined view blocks ≡ take (128 * length blocks) points
  pub within : 128 * length blocks ≤ length points
