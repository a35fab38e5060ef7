use Rattle.std.proofs.Common.{sym, ◌∙◌}
use Rattle.worker_crew.specs.Sights.{tracks_of}
use Rattle.shared_run.proofs.AtLast.{recomputes-none, recomputes-some, when-ok}
use Rattle.shared_run.proofs.finishing.finish_series.Goals as goal

pub returns-then-workers-eq0-clause-published : goal.returns-then-workers-eq0-clause-published
returns-then-workers-eq0-clause-published c = recomputes-none c.args.workers (tracks_of c.args.states.now) c.if-workers-eq0.true

pub returns-clause-published : goal.returns-clause-published
returns-clause-published c = recomputes-some c.args.workers (tracks_of c.args.states.now) (tracks_of c.recompute_each.new.states) c.if-workers-eq0.false c.recompute_each.ensures.added

pub returns-clause-quiet : goal.returns-clause-quiet
returns-clause-quiet c done some = when-ok c.recompute_each.result c.recompute_each.ensures.quiet (sym c.is_ok.ensures.value ∙ done)
