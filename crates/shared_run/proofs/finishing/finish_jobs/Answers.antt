use Rattle.std.proofs.Common.{length, sym, ap, ◌∙◌}
use Rattle.shared_run.proofs.AtLast.{when-ok}
use Rattle.shared_run.proofs.finishing.finish_jobs.Goals as goal

pub returns-clause-as_many : goal.returns-clause-as_many
returns-clause-as_many g c = sym (ap length c.in-Some.ensures.cases.0)

pub returns-clause-quiet : goal.returns-clause-quiet
returns-clause-quiet g c done some = when-ok c.bisect_each.result c.bisect_each.ensures.quiet (sym c.is_ok.ensures.value ∙ done)
