-- No public contract cites this. Lower bounds of what the candidates of each block make.
use Rattle.std.specs.Prelude.{◌≡◌, ◌≢◌, ℕ, ℤ, ◌+◌, ◌*◌, ◌^◌, ◌<◌, ◌≤◌, List, length, slice_index, slice_index_or, ◌⊎◌, pos, neg_ℤ, ◌+ℤ◌, ◌≤ℤ◌, ◌<ℤ◌}
use Rattle.segment_model.specs.Values.{AreWithinLimits}
use Rattle.pelt_core.specs.{declared.bounds.Bound.Bound, declared.bounds.Found.Found, declared.bounds.Rise.Rise, Candidates.total_from}

-- the bound of block k
abbrev pub bound_at : List Bound → ℕ → Bound
bound_at bounds k = slice_index_or bounds k (record { at = 0; total = pos 0 })

-- the bound is at most what a last segment from place s makes to the bound's place, which lies at s or behind it
pub record IsBound (cost : ℕ → ℕ → ℤ) (least : List ℤ) (s : ℕ) (bound : Bound) : Type 0 where
  pub behind : s ≤ bound.at
  pub at_most : bound.total ≤ℤ total_from cost least bound.at s

-- each block of candidates has a bound, for places up to t; each holds for the candidates of its block, but for the one at
-- index `apart`
pub record HaveBounds (cost : ℕ → ℕ → ℤ) (t : ℕ) (least : List ℤ) (candidates : List ℕ) (apart : ℕ) (bounds : List Bound) : Type 0 where
  pub enough : length candidates ≤ 256 * length bounds
  pub placed : (k : ℕ) → k < length bounds → (bound_at bounds k).at ≤ t
  pub low : (k : ℕ) → k < length bounds → neg_ℤ (pos (10 ^ 36)) ≤ℤ (bound_at bounds k).total
  pub high : (k : ℕ) → k < length bounds → (bound_at bounds k).total ≤ℤ pos (2 * 10 ^ 37)
  pub holds : (k i : ℕ) → k < length bounds → 256 * k ≤ i → i < 256 * k + 256 → i < length candidates → i ≢ apart
      → IsBound cost least (slice_index candidates i) (bound_at bounds k)

-- a bound for a place of positions within the limits, by which it may rise
pub record MayRise (positions : List (List ℤ)) (bound : Bound) : Type 0 where
  pub limits : AreWithinLimits positions
  pub placed : bound.at ≤ length positions
  pub low : neg_ℤ (pos (10 ^ 36)) ≤ℤ bound.total
  pub high : bound.total ≤ℤ pos (2 * 10 ^ 37)

-- more bounds at the end, each at most what any last segment makes; the first are the same
pub record HaveMore (old new : List Bound) : Type 0 where
  pub more : length old ≤ length new
  pub same : (k : ℕ) → k < length old → bound_at new k ≡ bound_at old k
  pub fresh : (k : ℕ) → length old ≤ k → k < length new → bound_at new k ≡ record { at = 0; total = neg_ℤ (pos (10 ^ 36)) }

-- what was found is less than a total at an index, or equal to it and at no later index
abbrev pub IsNoLater : Found → ℤ → ℕ → Type 0
IsNoLater found x i = (found.total <ℤ x) ⊎ ((found.total ≡ x) × (found.index ≤ i))

-- what was found is made by its candidate
pub record IsMade (cost : ℕ → ℕ → ℤ) (least : List ℤ) (t : ℕ) (candidates : List ℕ) (found : Found) : Type 0 where
  pub inside : found.index < length candidates
  pub exact : found.total ≡ total_from cost least t (slice_index candidates found.index)
  pub low : neg_ℤ (pos (10 ^ 36)) ≤ℤ found.total
  pub high : found.total ≤ℤ pos (2 * 10 ^ 37)

-- what was found is made by its candidate, and comes no later than what the first `upto` make and the one at `guess`
pub record IsFirst (cost : ℕ → ℕ → ℤ) (least : List ℤ) (t : ℕ) (candidates : List ℕ) (guess upto : ℕ) (found : Found) : Type 0 where
  pub made : IsMade cost least t candidates found
  pub before : (i : ℕ) → i < length candidates → (i < upto) ⊎ (i ≡ guess) → IsNoLater found (total_from cost least t (slice_index candidates i)) i

-- the best of the first `upto` candidates, and at most what those from `start` on make without the one at `guess`
pub record AreLooked (cost : ℕ → ℕ → ℤ) (least : List ℤ) (t : ℕ) (candidates : List ℕ) (guess start upto : ℕ) (best : Found) (lowest : ℤ) : Type 0 where
  pub first : IsFirst cost least t candidates guess upto best
  pub at_most : (i : ℕ) → start ≤ i → i < upto → i < length candidates → i ≢ guess
      → lowest ≤ℤ total_from cost least t (slice_index candidates i)
  pub low : neg_ℤ (pos (10 ^ 36)) ≤ℤ lowest
  pub high : lowest ≤ℤ pos (2 * 10 ^ 37)

-- what was found comes no later than each total to place t that the bound allows, at an index from `start` on
abbrev pub IsBelowBlock : (ℕ → ℕ → ℤ) → ℕ → Bound → ℕ → Found → Type 0
IsBelowBlock cost t bound start found =
    (x : ℤ) (i : ℕ) → start ≤ i → bound.total ≤ℤ x → (bound.at < t → (bound.total +ℤ cost bound.at t) ≤ℤ x) → IsNoLater found x i

-- the bound for place t that is at most the old one and a total
pub record IsLowered (old : Bound) (t : ℕ) (total : ℤ) (new : Bound) : Type 0 where
  pub at : new.at ≡ t
  pub at_most : new.total ≤ℤ old.total
  pub below : new.total ≤ℤ total
  pub one : (new.total ≡ old.total) ⊎ (new.total ≡ total)

-- the bound for place t that a bound becomes: from an earlier place it rises by the cost of the segment between, to 2 10^37 at most
pub record IsMoved (cost : ℕ → ℕ → ℤ) (t : ℕ) (old new : Bound) : Type 0 where
  pub at : new.at ≡ t
  pub same : t ≤ old.at → new.total ≡ old.total
  pub at_most : old.at < t → new.total ≤ℤ (old.total +ℤ cost old.at t)
  pub risen : old.at < t → (new.total ≡ old.total +ℤ cost old.at t) ⊎ (new.total ≡ pos (2 * 10 ^ 37))
  pub low : neg_ℤ (pos (10 ^ 36)) ≤ℤ new.total
  pub high : new.total ≤ℤ pos (2 * 10 ^ 37)

-- what the segment from a place to place t costs, where that place lies before t
abbrev pub IsRise : (ℕ → ℕ → ℤ) → ℕ → Rise → Type 0
IsRise cost t rise = rise.at < t → rise.cost ≡ cost rise.at t

-- each segment up to place n costs from 0 to 10^37
abbrev pub AreInRange : (ℕ → ℕ → ℤ) → ℕ → Type 0
AreInRange cost n = (s t : ℕ) → s ≤ t → t ≤ n → (pos 0 ≤ℤ cost s t) × (cost s t ≤ℤ pos (10 ^ 37))
