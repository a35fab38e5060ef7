-- When a certificate stands for points, a penalty and a least length of segments by distances.
use Rattle.std.specs.Prelude.{◌≡◌, ℕ, ℤ, List, ◌++◌, length}
use Rattle.segment_model.specs.{Segments.Position, Cuts.Agree, Values.{values_by_position, cost_between}}
use Rattle.segment_cost.specs.{declared.cert.Cert.Cert, Certificate.{IsCertificate, HaveOne, StandIfCertified, AreCertified}}
use Rattle.distance_model.specs.Distances.{IsAbsoluteCost, least_distances_of}
use Rattle.cost_certificate.specs.Text.{text_of}

-- for the costs of the points' segments by distances: the cuts are the best cut list, and the tables are those of the points
pub record StandsFor (points : List Position) (penalty : ℤ) (len : ℕ) (cert : Cert) : Type 0 where
  pub cost : ℕ → ℕ → ℤ
  pub is_cost : IsAbsoluteCost points cost
  pub certificate : IsCertificate cost (length points) penalty len cert

-- its text was added
pub record AddsText (points : List Position) (penalty : ℤ) (len : ℕ) (before after : List ℕ) : Type 0 where
  pub cert : Cert
  pub stands : StandsFor points penalty len cert
  pub added : after ≡ before ++ text_of cert

-- ---- laws

-- costs of the points' segments by distances agree
abbrev pub CostIsUnique : Type 0
CostIsUnique = (points : List Position) (one other : ℕ → ℕ → ℤ) → IsAbsoluteCost points one → IsAbsoluteCost points other → Agree one other (length points)

-- no points, penalty and least length have two certificates that stand for them
abbrev pub OneCertificate : Type 0
OneCertificate = HaveOne StandsFor

-- the least sums of distances of the points' segments, as they are computed
abbrev pub distances_between : List Position → ℕ → ℕ → ℤ
distances_between points = cost_between least_distances_of (values_by_position points)

-- a certificate for them stands for the points
abbrev pub CertificateStands : Type 0
CertificateStands = StandIfCertified distances_between StandsFor

-- and one that stands for the points is one for them
abbrev pub StandingIsCertificate : Type 0
StandingIsCertificate = AreCertified distances_between StandsFor
