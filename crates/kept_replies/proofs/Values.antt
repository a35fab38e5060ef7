-- Noise and certificates of positions are those of their values.
use Rattle.std.{proofs.Common.{◌≡◌, ℕ, ℤ, ◌+◌, List, length, sym, ap, subst, ◌∙◌, arith}, specs.Prelude.slice_index}
use Rattle.segment_cost.specs.{Certificate.StandsFor, declared.cert.Cert.Cert}
use Rattle.segment_model.specs.{Segments.{Position, segment, IsCentre, IsLeastSum}, Values.{ValuesOfPoints, values_between, values_by_position}}
use Rattle.segment_model.specs.{Cuts.{IsBest, total}, Tables.IsTable}
use Rattle.series_noise.specs.Noise.{IsDistance, IsNoise}
use Rattle.kept_replies.proofs.Positions.{same_length}

module _ (by_values : ValuesOfPoints) (points others : List Position) (same : values_by_position points ≡ values_by_position others) where
  same_segment : (s t : ℕ) → segment points s t ≡ segment others s t
  same_segment s t = sym (by_values points s t) ∙ ap (λ vs. values_between vs s t) same ∙ by_values others s t

  same_distance : (i distance : ℕ) → IsDistance points i distance → IsDistance others i distance
  same_distance i distance is = record {
    before = is.before;
    after = is.after;
    centre_before = subst (λ xs. IsCentre xs is.before) (same_segment i (i + 1)) is.centre_before;
    centre_after = subst (λ xs. IsCentre xs is.after) (same_segment (i + 1) (i + 2)) is.centre_after;
    apart = is.apart;
  }

  pub same_noise : (noise : ℕ) → IsNoise points noise → IsNoise others noise
  same_noise noise is = record {
    distances = is.distances;
    apart = record {
      counted = is.apart.counted ∙ same_length points others same;
      each = λ i below. same_distance i (slice_index is.distances i) (is.apart.each i below);
    };
    median = is.median;
  }

  pub same_stands : (penalty : ℤ) (len : ℕ) (cert : Cert) → StandsFor points penalty len cert → StandsFor others penalty len cert
  same_stands penalty len cert is =
      let many : length points ≡ length others = same_length points others same in
      record {
        cost = is.cost;
        is_cost = λ s t le last. subst (λ xs. IsLeastSum xs (is.cost s t)) (same_segment s t) (is.is_cost s t le (omega arith));
        counted = is.counted ∙ many;
        same_penalty = is.same_penalty;
        same_length = is.same_length;
        best = subst (λ (n : ℕ). IsBest is.cost penalty len n cert.cuts) many is.best;
        totalled = is.totalled ∙ ap (λ (n : ℕ). total is.cost penalty n cert.cuts) many;
        table = subst (λ (n : ℕ). IsTable is.cost n penalty len cert.least cert.back cert.pruned) many is.table;
      }
