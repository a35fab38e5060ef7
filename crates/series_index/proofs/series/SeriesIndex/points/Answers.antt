use Rattle.std.{proofs.Common.{◌≡◌, ◌∙◌, sym, subst}, specs.Prelude.IfOk}
use Rattle.series_index.{specs.declared.tracked.Tracked.Tracked, proofs.ByPlace.{none-metrics, put-keys, same-put, seen-at, unseen-at}}
use Rattle.series_index.proofs.series.SeriesIndex.points.Goals as goal

pub returns-in-Some-clause-same : goal.returns-in-Some-clause-same
returns-in-Some-clause-same c =
    same-put c.args.test.now c.self.inside.names c.self.inside.tests.items c.in-Some.place c.index_mut.result.now c.self.invariant (sym c.place_of.ensures ∙ c.in-Some.is)
    c.index_mut.ensures.value c.args.self.now c.self.view_is c.freeze.new.self c.freeze.ensures.same

pub invariant_of-self : goal.invariant_of-self
invariant_of-self c = put-keys c.args.test.now c.self.inside.names c.self.inside.tests.items c.in-Some.place c.index_mut.result.now c.self.invariant (sym c.place_of.ensures ∙ c.in-Some.is)
    c.index_mut.ensures.value c.freeze.new.self

pub returns-in-Some-clause-points : goal.returns-in-Some-clause-points
returns-in-Some-clause-points c =
    let here = seen-at c.args.test.now c.self.inside.names c.self.inside.tests.items c.in-Some.place c.index_mut.result.now c.self.invariant (sym c.place_of.ensures ∙ c.in-Some.is)
    c.index_mut.ensures.value c.args.self.now c.self.view_is c.args.metric.now in
    subst (λ (t : Tracked). IfOk c.freeze.result (λ points. points ≡ t.points)) (sym here) c.freeze.ensures.points

pub returns-clause-points : goal.returns-clause-points
returns-clause-points c =
    let none = none-metrics c.args.test.now c.self.inside.names c.self.inside.tests.items c.self.invariant (sym c.place_of.ensures ∙ c.in_default.is) in
    let here = unseen-at c.args.test.now c.args.metric.now c.self.inside.tests.items c.args.self.now c.self.view_is none in
    subst (λ (t : Tracked). IfOk c.none.result (λ points. points ≡ t.points)) (sym here) c.none.ensures
