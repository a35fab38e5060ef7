use Rattle.std.proofs.Common.{◌∙◌, sym}
use Rattle.series_index.{specs.Seen.taken_out, proofs.Written.none-out, proofs.ByPlace.{none-metrics, put-keys, seen-put, seen-none}}
use Rattle.series_index.proofs.series.SeriesIndex.remove.Goals as goal

pub returns-in-Some : goal.returns-in-Some
returns-in-Some c =
    seen-put c.args.test.now c.self.inside.names c.self.inside.tests.items c.in-Some.place c.index_mut.result.now c.self.invariant (sym c.place_of.ensures ∙ c.in-Some.is)
    c.index_mut.ensures.value c.args.self.now c.self.view_is c.remove.new.self c.args.metric.now
    (taken_out c.args.forget c.args.commit c.args.step) c.remove.ensures

pub returns : goal.returns
returns c =
    seen-none c.args.test.now c.args.metric.now c.self.inside.tests.items c.args.self.now c.self.view_is
    (none-metrics c.args.test.now c.self.inside.names c.self.inside.tests.items c.self.invariant (sym c.place_of.ensures ∙ c.in_default.is))
    (taken_out c.args.forget c.args.commit c.args.step) (none-out c.args.forget c.args.commit c.args.step)

pub invariant_of-self : goal.invariant_of-self
invariant_of-self c = put-keys c.args.test.now c.self.inside.names c.self.inside.tests.items c.in-Some.place c.index_mut.result.now c.self.invariant (sym c.place_of.ensures ∙ c.in-Some.is)
    c.index_mut.ensures.value c.remove.new.self
