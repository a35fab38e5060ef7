-- No public contract cites this. A position's values in cells, and after these as many cells of steps.
use Rattle.std.specs.{Prelude.{◌≡◌, ℕ, ℤ, ◌/◌, ◌*◌, ◌<◌, ◌≤◌, List, [], ◌∷◌, ◌++◌, length, map, take, drop}, Int.{w64, cast_unsigned}}
use Rattle.std.specs.List.Sorted.{IsNonDecreasingBy}
use Rattle.segment_model.specs.Segments.{Observation}

-- steps and values side by side
abbrev pub samples_of : List ℕ → List ℤ → List Observation
samples_of [] values = []
samples_of (s ∷ steps) [] = []
samples_of (s ∷ steps) (v ∷ values) = record { step = s; value = v } ∷ samples_of steps values

-- the steps that signed numbers of the same bits stand for
abbrev pub as_steps : List ℤ → List ℕ
as_steps cells = map (cast_unsigned w64) cells

-- the cells of values; as many for their steps stand after them
abbrev pub half : List ℤ → ℕ
half cells = length cells / 2

-- the list without what stands from a place on and before a higher one
abbrev pub without : ℕ → ℕ → List ℤ → List ℤ
without low high cells = take low cells ++ drop high cells

-- their steps don't fall
abbrev pub AreInOrder : List Observation → Type 0
AreInOrder samples = IsNonDecreasingBy (λ (x : Observation). x.step) samples

-- the values before a place, with their steps
abbrev pub samples_before : ℕ → List ℤ → List Observation
samples_before end cells = samples_of (as_steps (take end (drop (half cells) cells))) (take end cells)

-- those from a place on
abbrev pub samples_in : ℕ → ℕ → List ℤ → List Observation
samples_in first end cells = drop first (samples_before end cells)

-- there are two halves that are not empty, and in each there are these places
pub record HasHalves (first end : ℕ) (cells : List ℤ) : Type 0 where
  pub some : 0 < half cells
  pub even : 2 * half cells ≡ length cells
  pub order : first ≤ end
  pub within : end ≤ half cells
