use Rattle.std.{proofs.Common.{◌∙◌, sym, ap}, specs.Option.option_copied_mut}
use Rattle.series_index.{specs.Seen.taken_out, proofs.Written.{none-out, seen-through, seen-absent}}
use Rattle.series_index.proofs.metrics.MetricIndex.remove.Goals as goal

pub returns-in-Some : goal.returns-in-Some
returns-in-Some c =
    seen-through c.args.metric.now c.self.inside.entries c.args.self.now c.self.view_is
    c.get_mut.follows.lender c.get_mut.follows.holds c.in-Some.tracked.now c.remove.new.self c.in-Some.ensures.value (taken_out c.args.forget c.args.commit c.args.step)
    (c.remove.ensures ∙ ap (taken_out c.args.forget c.args.commit c.args.step) c.get_mut-in-Some.ensures.value)

pub returns : goal.returns
returns c =
    seen-absent c.args.metric.now c.self.inside.entries c.args.self.now c.self.view_is c.get_mut.follows.lender-at-none (taken_out c.args.forget c.args.commit c.args.step)
    c.get_mut.follows.holds-at-none (sym c.get_mut.ensures.value ∙ ap option_copied_mut c.in_default.is) (none-out c.args.forget c.args.commit c.args.step)
