-- The certificate of a table of points.
use Rattle.std.proofs.{Common.{◌≡◌, ℕ, ℤ, List, length}, lemmas.List.length-map}
use Rattle.segment_model.specs.{Segments.{Position, position_values}, Computed.least_sum_of, Values.{values_by_position, cost_between}}
use Rattle.segment_cost.specs.{declared.cert.Cert.Cert, Certificate.{IsCertificate, squares_between}}
use Rattle.pelt_core.specs.Seen.{Tabled, table_of}

pub of-points : (points : List Position) (b : ℤ) (len : ℕ) (cert : Cert) (t : Tabled) → t ≡ table_of (values_by_position points) b len
    → IsCertificate (cost_between least_sum_of t.positions) (length t.positions) t.penalty t.length cert → IsCertificate (squares_between points) (length points) b len cert
of-points points b len cert t e is =
    let is' = rw e at is in
    rw (length-map points position_values) at is'
