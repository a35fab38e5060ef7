-- The laws of best cut lists, for the points of a series.
use Rattle.std.proofs.{Common.{ℕ, ℤ, List, length, sym, ◌∙◌, arith}, lemmas.Int.ints}
use Rattle.segment_model.specs.{Segments.Position, Computed.cost_of, Laws.{CostIsComputed, CostIsUnique, AgreeingCostsHaveOneBest, BestIsUnique}}
use Rattle.segment_cost.specs.{Certificate.{StandsFor, OneCertificate}, declared.cert.Cert.Cert}
use Rattle.penalty_path.{specs.Laws.{CutsFall, CountIsList, BetweenIsSame}, specs.Paths.AreBest, specs.Known.Known, proofs.Penalties.{spread, scale-sub}}

-- a certificate's cuts are the best
pub best-stands : (points : List Position) (b : ℤ) (cert : Cert) → StandsFor points b 1 cert → AreBest points b cert.cuts
best-stands points b cert h = record { cost = h.cost; is_cost = h.is_cost; best = h.best }

pub known : CostIsComputed → CostIsUnique → AgreeingCostsHaveOneBest → BestIsUnique → CutsFall → CountIsList → BetweenIsSame → OneCertificate
    → (points : List Position) → Known points
known computed one_cost agreeing unique fall count between certificate points =
    let n : ℕ = length points in
    let computed_best = λ (b : ℤ) (cuts : List ℕ) (h : AreBest points b cuts).
    (agreeing h.cost (cost_of points) b 1 n cuts (one_cost points (cost_of points) h.cost (computed points) h.is_cost) h.best).0 in
    let total_is = λ (cert : Cert) (h : StandsFor points cert.penalty 1 cert).
    (agreeing h.cost (cost_of points) cert.penalty 1 n cert.cuts (one_cost points (cost_of points) h.cost (computed points) h.is_cost) h.best).1 ∙ sym h.totalled in
    record {
      unique = λ b one other h k. unique (cost_of points) b 1 n one other (computed_best b one h) (computed_best b other k);
      fall = λ b c cuts others h k le. fall (cost_of points) 1 n b c cuts others (computed_best b cuts h) (computed_best c others k) le;
      count = λ b c cuts others h k e. count (cost_of points) 1 n b c cuts others (computed_best b cuts h) (computed_best c others k) e;
      between = λ b c d cuts h k above below. record {
        cost = cost_of points;
        is_cost = computed points;
        best = between (cost_of points) 1 n b c d cuts (computed_best b cuts h) (computed_best c cuts k) above below;
      };
      certificate = λ b one other h k. certificate points b 1 one other h k;
      cheapest = λ b cert other h k best.
          let here = total_is cert h in
          let there = total_is other k in
          let le = (computed_best b cert.cuts best).least other.cuts (computed_best other.penalty other.cuts (best-stands points other.penalty other k)).is_cut_list in
          omega (
            arith,
            ints,
            le,
            here,
            there,
            spread (cost_of points) b n cert.cuts,
            spread (cost_of points) cert.penalty n cert.cuts,
            scale-sub (length cert.cuts) b cert.penalty,
            spread (cost_of points) b n other.cuts,
            spread (cost_of points) other.penalty n other.cuts,
            scale-sub (length other.cuts) b other.penalty,
          );
    }
