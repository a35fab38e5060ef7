use Rattle.std.proofs.Common.{◌∙◌}
use Rattle.series_index.proofs.Written.{same-through, same-absent}
use Rattle.series_index.proofs.metrics.MetricIndex.freeze.Goals as goal

pub returns-in-Some-clause-same : goal.returns-in-Some-clause-same
returns-in-Some-clause-same c =
    same-through c.args.metric.now c.self.inside.entries c.args.self.now c.self.view_is
    c.get_mut.follows.lender c.get_mut.follows.holds c.in-Some.tracked.now c.freeze.new.self c.in-Some.ensures.value (c.freeze.ensures.same ∙ c.get_mut-in-Some.ensures.value)

pub returns-clause-same : goal.returns-clause-same
returns-clause-same c = same-absent c.args.metric.now c.self.inside.entries c.args.self.now c.self.view_is c.get_mut.follows.lender-at-none c.get_mut.follows.holds-at-none
