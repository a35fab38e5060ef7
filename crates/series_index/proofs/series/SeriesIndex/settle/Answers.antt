use Rattle.std.proofs.Common.{◌∙◌, sym}
use Rattle.series_index.proofs.ByPlace.{put-keys, same-put}
use Rattle.series_index.proofs.series.SeriesIndex.settle.Goals as goal

pub returns-in-Some : goal.returns-in-Some
returns-in-Some c =
    same-put c.args.test.now c.self.inside.names c.self.inside.tests.items c.in-Some.place c.index_mut.result.now c.self.invariant (sym c.place_of.ensures ∙ c.in-Some.is)
    c.index_mut.ensures.value c.args.self.now c.self.view_is c.settle.new.self c.settle.ensures

pub invariant_of-self : goal.invariant_of-self
invariant_of-self c = put-keys c.args.test.now c.self.inside.names c.self.inside.tests.items c.in-Some.place c.index_mut.result.now c.self.invariant (sym c.place_of.ensures ∙ c.in-Some.is)
    c.index_mut.ensures.value c.settle.new.self
