use Rattle.std.proofs.{Common.arith, lemmas.Grind.common_steps}
use Rattle.history_model.specs.declared.entries.Author.TheVariants.{Bisect}
use Rattle.bisect_workers.proofs.Besides.{nothing, sees-all, settled, unused}
use Rattle.bisect_workers.proofs.worker.finish.Goals as goal

pub returns-in_err-status-clause-bisected : goal.returns-in_err-status-clause-bisected
returns-in_err-status-clause-bisected g c = grind (arith, common_steps, nothing, sees-all)

pub returns-in_err-settle-clause-bisected : goal.returns-in_err-settle-clause-bisected
returns-in_err-settle-clause-bisected g c =
    unused (Bisect c.args.number) c.args.test.now c.args.question.now c.in_ok-status.status c.args.machine c.args.pass.now c.requires.asked c.settle.new.pass
    (g.A.Runner.asked c.args.runner.now) (g.A.Runner.asked c.ask.new.runner) (g.A.Runner.faults c.args.runner.now) (g.A.Runner.faults c.ask.new.runner)
    c.in_err-settle.ensures.err c.in_ok-status.ensures.asked c.ask.ensures.counts

pub returns-clause-bisected : goal.returns-clause-bisected
returns-clause-bisected g c = grind (arith, common_steps, settled)
