use Rattle.std.{proofs.Common.{◌∙◌, Option, ap, sym}, specs.Prelude.unwrap_or}
use Rattle.series_index.{specs.declared.tracked.Tracked.Tracked, specs.Seen.unseen, proofs.ByPlace.{none-metrics, seen-at, unseen-at}}
use Rattle.series_index.proofs.series.SeriesIndex.get.Goals as goal

pub returns-in-Some : goal.returns-in-Some
returns-in-Some c =
    ap (λ (o : Option Tracked). unwrap_or o unseen) c.get.ensures
    ∙ sym (seen-at c.args.test.now c.self.inside.names c.self.inside.tests.items c.in-Some.place c.index.result.now c.self.invariant (sym c.place_of.ensures ∙ c.in-Some.is)
    c.index.ensures c.args.self.now c.self.view_is c.args.metric.now)

pub returns-in-None : goal.returns-in-None
returns-in-None c =
    sym (unseen-at c.args.test.now c.args.metric.now c.self.inside.tests.items c.args.self.now c.self.view_is
    (none-metrics c.args.test.now c.self.inside.names c.self.inside.tests.items c.self.invariant (sym c.place_of.ensures ∙ c.in-None.is)))
