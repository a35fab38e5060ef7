-- No public contract cites this. The totals of two cut lists as lines over the penalty.
use Rattle.std.specs.Prelude.{◌≡◌, ℤ, List, length, ◌⊎◌, pos, ◌+ℤ◌, ◌-ℤ◌, ◌*ℤ◌, ◌<ℤ◌}
use Rattle.segment_model.specs.Segments.{Position}
use Rattle.segment_cost.specs.declared.cert.Cert.{Cert}
use Rattle.penalty_path.specs.Paths.{AreBest}

-- the total of a certificate's cuts at a penalty
abbrev pub total_at : Cert → ℤ → ℤ
total_at cert b = cert.total +ℤ pos (length cert.cuts) *ℤ (b -ℤ cert.penalty)

-- the first list's total is less below the penalty, and more above
pub record Crosses (last next : Cert) (crossing : ℤ) : Type 0 where
  pub below : (b : ℤ) → b <ℤ crossing → total_at last b <ℤ total_at next b
  pub above : (b : ℤ) → crossing <ℤ b → total_at next b <ℤ total_at last b

-- behind the penalty the first list's total is more, unless the second certificate stands there; before it it is less,
-- unless the first one stands there
pub record Parts (last next : Cert) (middle : ℤ) : Type 0 where
  pub behind : (next.penalty ≡ middle +ℤ pos 1) ⊎ (total_at next (middle +ℤ pos 1) <ℤ total_at last (middle +ℤ pos 1))
  pub before : (middle ≡ last.penalty +ℤ pos 1) ⊎ (total_at last (middle -ℤ pos 1) <ℤ total_at next (middle -ℤ pos 1))

-- a list of more cuts isn't the best behind such a penalty, nor one of fewer before it
pub record Turn (points : List Position) (last next : Cert) (middle : ℤ) : Type 0 where
  pub ends : ¬ AreBest points (middle +ℤ pos 1) last.cuts
  pub begins : ¬ AreBest points (middle -ℤ pos 1) next.cuts
