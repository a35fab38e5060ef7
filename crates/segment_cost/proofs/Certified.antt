-- Certificates for a cost: one for each cost that agrees, and no two for the same.
use Rattle.std.proofs.Common.{◌≡◌, ℕ, ℤ, List, length, sym, ap, ◌∙◌}
use Rattle.segment_model.specs.{Segments.Position, Cuts.{Agree, total}, Laws.{BestIsUnique, AgreeingCostsHaveOneBest, AgreeingCostsHaveOneTable, TableIsUnique}}
use Rattle.segment_cost.specs.{declared.cert.Cert.Cert, Certificate.{IsCertificate, HaveOne, AreCertified}}

-- a certificate for a cost is one for each cost that agrees
pub agreed : AgreeingCostsHaveOneBest → AgreeingCostsHaveOneTable → (one other : ℕ → ℕ → ℤ) (n : ℕ) (penalty : ℤ) (len : ℕ) (cert : Cert) → Agree one other n
    → IsCertificate one n penalty len cert → IsCertificate other n penalty len cert
agreed best table one other n penalty len cert agree is =
    let list = best one other penalty len n cert.cuts agree is.best in
    record {
      counted = is.counted;
      same_penalty = is.same_penalty;
      same_length = is.same_length;
      best = list.0;
      totalled = is.totalled ∙ sym list.1;
      table = table one other n penalty len cert.least cert.back cert.pruned agree is.table;
    }

-- a certificate of these parts
cert_of : ℕ → ℤ → ℕ → List ℕ → ℤ → List ℤ → List ℕ → List ℕ → Cert
cert_of points penalty len cuts all least back pruned =
    record { points = points; penalty = penalty; length = len; cuts = cuts; total = all; least = least; back = back; pruned = pruned }

same_parts : (points points' : ℕ) (penalty penalty' : ℤ) (len len' : ℕ) (cuts cuts' : List ℕ) (all all' : ℤ) (least least' : List ℤ) (back back' pruned pruned' : List ℕ)
    → points ≡ points' → penalty ≡ penalty' → len ≡ len' → cuts ≡ cuts' → all ≡ all' → least ≡ least' → back ≡ back' → pruned ≡ pruned'
    → cert_of points penalty len cuts all least back pruned ≡ cert_of points' penalty' len' cuts' all' least' back' pruned'
same_parts points points' penalty penalty' len len' cuts cuts' all all' least least' back back' pruned pruned' a b c d e f g i = cc

-- a cost, a penalty and a least length have one certificate
one-of-cost : BestIsUnique → TableIsUnique → (cost : ℕ → ℕ → ℤ) (n : ℕ) (penalty : ℤ) (len : ℕ) (one other : Cert)
    → IsCertificate cost n penalty len one → IsCertificate cost n penalty len other → one ≡ other
unfolding cert_of
one-of-cost best-unique table-unique cost n penalty len one other h k =
    let cuts : one.cuts ≡ other.cuts = best-unique cost penalty len n one.cuts other.cuts h.best k.best in
    let tables = table-unique cost n penalty len one.least other.least one.back other.back one.pruned other.pruned h.table k.table in
    let all : one.total ≡ other.total = h.totalled ∙ ap (total cost penalty n) cuts ∙ sym k.totalled in
    same_parts one.points other.points one.penalty other.penalty one.length other.length one.cuts other.cuts one.total other.total one.least other.least one.back other.back one.pruned other.pruned
    (h.counted ∙ sym k.counted) (h.same_penalty ∙ sym k.same_penalty) (h.same_length ∙ sym k.same_length) cuts all tables.0 tables.1 tables.2

-- and so do points, where what stands for them is a certificate for their costs
pub one-standing : BestIsUnique → TableIsUnique → (between : List Position → ℕ → ℕ → ℤ) (Stands : List Position → ℤ → ℕ → Cert → Type 0) → AreCertified between Stands → HaveOne Stands
one-standing best table between Stands certified points penalty len one other is its =
    one-of-cost best table (between points) (length points) penalty len one other (certified points penalty len one is) (certified points penalty len other its)
