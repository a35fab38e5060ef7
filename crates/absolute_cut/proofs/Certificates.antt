-- Costs by distances agree, so that a certificate that stands for points is one for the costs as they are computed.
use Rattle.std.proofs.{Common.{◌≡◌, ℤ, List, length, sym, ◌≤ℤ◌, subst, arith}, lemmas.Int.ints}
use Rattle.segment_model.specs.{Segments.{Position, segment}, Laws.{AgreeingCostsHaveOneBest, AgreeingCostsHaveOneTable}, Values.ValuesOfPoints}
use Rattle.distance_model.specs.Distances.{IsAbsoluteCost, IsLeastDistances, LeastIsComputed, least_distances_of}
use Rattle.segment_cost.proofs.Certified.{agreed}
use Rattle.absolute_cut.specs.Certificate.{CostIsUnique, StandingIsCertificate, distances_between}

-- some values have one least sum of distances
least-unique : (xs : List ℤ) (j k : ℤ) → IsLeastDistances xs j → IsLeastDistances xs k → k ≡ j
least-unique xs j k is its =
    let below : j ≤ℤ k = subst (λ (z : ℤ). j ≤ℤ z) its.reached (is.least its.centre) in
    let above : k ≤ℤ j = subst (λ (z : ℤ). k ≤ℤ z) is.reached (its.least is.centre) in
    omega (arith, ints, below, above)

pub cost-unique : CostIsUnique
cost-unique points one other is its s t le fits =
    least-unique (segment points s t) (one s t) (other s t) (is s t le fits) (its s t le fits)

-- as they are computed
pub computed : LeastIsComputed → ValuesOfPoints → (points : List Position) → IsAbsoluteCost points (distances_between points)
computed least of points s t le fits =
    subst (λ (xs : List ℤ). IsLeastDistances (segment points s t) (least_distances_of xs)) (sym (of points s t)) (least (segment points s t))

pub standing : LeastIsComputed → ValuesOfPoints → AgreeingCostsHaveOneBest → AgreeingCostsHaveOneTable → StandingIsCertificate
standing least of best table points penalty len cert stands =
    agreed best table stands.cost (distances_between points) (length points) penalty len cert
    (cost-unique points stands.cost (distances_between points) stands.is_cost (computed least of points)) stands.certificate
