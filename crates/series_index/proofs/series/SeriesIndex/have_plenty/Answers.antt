use Rattle.std.{proofs.Common.{ℕ, Bool, not, List, length, take, subst, arith}, specs.List.list_any, proofs.lemmas.Grind.common_steps}
use Rattle.std.proofs.lemmas.List.{take_all}
use Rattle.sample_model.specs.Samples.{Measurement}
use Rattle.history_model.specs.Runs.{is_of, measured}
use Rattle.series_index.{specs.Seen.seen, specs.Taken.of_series, specs.Demands.new_ones, specs.Plenty.HasPlenty, proofs.Firsts.{so-far, filter-few}}
use Rattle.series_index.proofs.series.SeriesIndex.have_plenty.Goals as goal

pub loop-sample-preserved : goal.loop-sample-preserved
loop-sample-preserved c =
    let x : Measurement = c.sample-item.result in
    let i : ℕ = c.loop-sample.sample-index in
    let samples : List Measurement = c.args.samples.now in
    let P : Measurement → Type 0 = λ y. HasPlenty (seen (measured y) c.args.self.now) c.args.commit (length samples) in
    let here : P x = subst P c.sample.view_is (c.has_plenty.ensures c.if-not-has_plenty.false) in
    let later : Bool = not (list_any (is_of (measured x)) (take i samples)) in
    record {
      none = grind (arith, common_steps);
      plenty = so-far (λ s. HasPlenty (seen s c.args.self.now) c.args.commit (length samples)) samples i x c.loop-sample-test.true c.sample-item.is c.loop-sample.invariant.plenty here;
    }

pub returns : goal.returns
returns c = grind (arith, common_steps, take, take_all, length, of_series, seen, new_ones, filter-few)
