-- The path of some points over a range of penalties: the best cut list at each of them, in stretches of one list.
use Rattle.std.specs.Prelude.{◌≡◌, ◌≢◌, ℕ, ℤ, ◌+◌, ◌-◌, ◌^◌, ◌<◌, List, length, get_or, pos, ◌+ℤ◌, ◌≤ℤ◌}
use Rattle.segment_model.specs.{Segments.{Position, IsCost}, Cuts.IsBest}
use Rattle.segment_cost.specs.Certificate.{StandsFor}
use Rattle.penalty_path.specs.declared.stretch.Stretch.{Stretch}

-- penalties from low to high, none below 0 and none above 10^36
pub record IsRange (low high : ℤ) : Type 0 where
  pub above : pos 0 ≤ℤ low
  pub rises : low ≤ℤ high
  pub below : high ≤ℤ pos (10 ^ 36)

-- the cuts are the best cut list of the points at a penalty, where segments of one position may be
pub record AreBest (points : List Position) (penalty : ℤ) (cuts : List ℕ) : Type 0 where
  pub cost : ℕ → ℕ → ℤ
  pub is_cost : IsCost points cost
  pub best : IsBest cost penalty 1 (length points) cuts

-- the certificates stand for the ends, and the cuts of both are the best at each penalty from one end to the other
pub record IsStretch (points : List Position) (s : Stretch) : Type 0 where
  pub rises : s.from ≤ℤ s.to
  pub first : StandsFor points s.from 1 s.first
  pub last : StandsFor points s.to 1 s.last
  pub best : (b : ℤ) → s.from ≤ℤ b → b ≤ℤ s.to → AreBest points b s.first.cuts × AreBest points b s.last.cuts

-- a stretch begins one above the end of the one before it, and has other cuts
pub record Follows (before next : Stretch) : Type 0 where
  pub begins : next.from ≡ before.to +ℤ pos 1
  pub differs : next.first.cuts ≢ before.last.cuts

-- there is a stretch; the first begins at the least penalty, the last ends at the greatest, and each follows the one
-- before it
pub record IsPath (points : List Position) (low high : ℤ) (stretches : List Stretch) : Type 0 where
  pub some : 0 < length stretches
  pub begins : (d : Stretch) → (get_or stretches 0 d).from ≡ low
  pub ends : (d : Stretch) → (get_or stretches (length stretches - 1) d).to ≡ high
  pub each : (i : ℕ) (d : Stretch) → i < length stretches → IsStretch points (get_or stretches i d)
  pub follow : (i : ℕ) (d : Stretch) → i + 1 < length stretches → Follows (get_or stretches i d) (get_or stretches (i + 1) d)
