-- No public contract cites this. The places that may still be a last cut.
use Rattle.std.specs.Prelude.{◌≡◌, ℕ, ℤ, Bool, ◌&&◌, ◌||◌, not, nat_lt, zero, suc, ◌+◌, ◌^◌, ◌<◌, ◌≤◌, List, [], ◌∷◌, ◌++◌, length, slice_index, ◌==◌, if◌then◌else◌, ◌⊎◌, pos, neg_ℤ, ◌+ℤ◌, ◌≤ℤ◌}
use Rattle.segment_model.specs.{Tables.{int_at, IsMarkedAt}, Values.AreWithinLimits}

-- the numbers below n that are chosen, in rising order
abbrev pub chosen_below : (ℕ → Bool) → ℕ → List ℕ
chosen_below chosen zero = []
chosen_below chosen (suc n) = chosen_below chosen n ++ (if chosen n then n ∷ [] else [])

-- whether a segment may begin at place s
abbrev pub begins : ℕ → ℕ → Bool
begins len s = s == 0 || not (nat_lt s len)

-- whether place s is there, and has no mark up to place g
abbrev pub stays : ℕ → List ℕ → ℕ → Bool
stays g pruned s = nat_lt s (length pruned) && (slice_index pruned s == 0 || nat_lt g (slice_index pruned s))

-- the places below n at which a segment may begin, and that have no mark up to place g, in rising order
abbrev pub open_places : ℕ → ℕ → List ℕ → ℕ → List ℕ
open_places len g pruned n = chosen_below (λ s. begins len s && stays g pruned s) n

-- each number is a least total, or minus a penalty
abbrev pub AreTotals : List ℤ → Type 0
AreTotals least =
    (s : ℕ) → s < length least → (neg_ℤ (pos (10 ^ 36)) ≤ℤ int_at least s) × (int_at least s ≤ℤ pos (10 ^ 37))

-- what a last segment from place s to place t makes, without the penalty before it
abbrev pub total_from : (ℕ → ℕ → ℤ) → List ℤ → ℕ → ℕ → ℤ
total_from cost least t s = int_at least s +ℤ cost s t

-- at least the least totals before the end of some positions, which are within the limits
pub record HaveTotals (positions : List (List ℤ)) (least : List ℤ) : Type 0 where
  pub limits : AreWithinLimits positions
  pub lengths : length positions ≤ length least
  pub totals : AreTotals least

-- the candidates for the last cut of some positions, with the least totals before their end
pub record AreCandidates (positions : List (List ℤ)) (least : List ℤ) (candidates : List ℕ) : Type 0 where
  pub totals : HaveTotals positions least
  pub below : (i : ℕ) → i < length candidates → slice_index candidates i < length positions

-- the marks before and after some places were looked at, all of them before t: those that were looked at have their new ones,
-- each other has its old one or its new one
pub record AreLookedAt (cost : ℕ → ℕ → ℤ) (len : ℕ) (least : List ℤ) (t : ℕ) (looked : ℕ → Type 0) (old new : List ℕ) : Type 0 where
  pub size : length new ≡ length old
  pub each : (s : ℕ) → (slice_index new s ≡ slice_index old s) ⊎ IsMarkedAt cost len least t s (slice_index old s) (slice_index new s)
  pub all : (s : ℕ) → looked s → IsMarkedAt cost len least t s (slice_index old s) (slice_index new s)
  pub behind : (s : ℕ) → t ≤ s → slice_index new s ≡ slice_index old s

-- place s is one of the first `count` candidates
abbrev pub IsAmong : List ℕ → ℕ → ℕ → Type 0
IsAmong candidates count s = (i : ℕ) × (i < count) × (slice_index candidates i ≡ s)

-- place s is one of the candidates before the last cut k, or lies behind it by less than len
abbrev pub IsNear : List ℕ → ℕ → ℕ → ℕ → ℕ → Type 0
IsNear candidates index len k s = IsAmong candidates index s ⊎ ((0 < k) × (k < s) × (s < k + len))
