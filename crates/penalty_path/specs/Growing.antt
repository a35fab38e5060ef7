-- No public contract cites this. A path as it grows.
use Rattle.std.specs.Prelude.{◌^◌, List, [], ◌∷◌, ◌++◌, length, pos, ◌*ℤ◌, ◌≤ℤ◌}
use Rattle.segment_cost.specs.declared.cert.Cert.{Cert}
use Rattle.penalty_path.specs.declared.{stretch.Stretch.Stretch, found.Grown.Grown}

-- the stretch of one certificate's penalty
abbrev pub single : Cert → Stretch
single cert = record { from = cert.penalty; to = cert.penalty; first = cert; last = cert }

-- a stretch up to a certificate's penalty
abbrev pub extended : Stretch → Cert → Stretch
extended s cert = record { from = s.from; to = cert.penalty; first = s.first; last = cert }

-- all stretches
abbrev pub stretches_of : Grown → List Stretch
stretches_of grown = grown.done.items ++ grown.current ∷ []

-- the penalty is in range, and what the cuts cost is no more than the total, which isn't much
pub record IsBounded (cert : Cert) : Type 0 where
  pub low : pos 0 ≤ℤ cert.penalty
  pub high : cert.penalty ≤ℤ pos (10 ^ 36)
  pub unpaid : pos 0 ≤ℤ (pos (length cert.cuts) *ℤ cert.penalty)
  pub paid : (pos (length cert.cuts) *ℤ cert.penalty) ≤ℤ cert.total
  pub small : cert.total ≤ℤ pos (10 ^ 37)
