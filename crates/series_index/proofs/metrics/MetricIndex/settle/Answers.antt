use Rattle.std.proofs.Common.{◌∙◌}
use Rattle.series_index.proofs.Written.{same-through, same-absent}
use Rattle.series_index.proofs.metrics.MetricIndex.settle.Goals as goal

pub returns-in-Some : goal.returns-in-Some
returns-in-Some c =
    same-through c.args.metric.now c.self.inside.entries c.args.self.now c.self.view_is
    c.get_mut.follows.lender c.get_mut.follows.holds c.in-Some.tracked.now c.settle.new.self c.in-Some.ensures.value (c.settle.ensures ∙ c.get_mut-in-Some.ensures.value)

pub returns : goal.returns
returns c = same-absent c.args.metric.now c.self.inside.entries c.args.self.now c.self.view_is c.get_mut.follows.lender-at-none c.get_mut.follows.holds-at-none
