use Rattle.std.{proofs.Common.{◌≡◌, ℕ, ℤ, List, length, arith}, specs.Int.w128, proofs.lemmas.Int.to_z-of_z, proofs.lemmas.Grind.common_steps}
use Rattle.segment_model.specs.{Segments.Position, Values.{values_by_position, cost_between}}
use Rattle.segment_cost.specs.{declared.cert.Cert.Cert, Certificate.IsCertificate}
use Rattle.pelt_core.specs.Seen.{Tabled, table_of}
use Rattle.pelt_core.proofs.from_points.certificate_by.Goals as goal

of-points : (f : List ℤ → ℤ) (points : List Position) (b : ℤ) (len : ℕ) (cert : Cert) (t : Tabled) → t ≡ table_of (values_by_position points) b len
    → IsCertificate (cost_between f t.positions) (length t.positions) t.penalty t.length cert → IsCertificate (cost_between f (values_by_position points)) (length points) b len cert
of-points f points b len cert t e is = grind (arith, common_steps)

pub returns : goal.returns
returns g c = grind (arith, common_steps, to_z-of_z, w128, of-points, c.ranges.penalty, c.in_ok-table.ensures, g.C.Cost.cost_of)
