use Rattle.std.proofs.{Common.arith, lemmas.Grind.common_steps}
use Rattle.worker_crew.proofs.Rests.{publishes-first}
use Rattle.worker_crew.proofs.last.+recompute_each.Goals as goal

pub returns-in_err-recompute_last-clause-added : goal.returns-in_err-recompute_last-clause-added
returns-in_err-recompute_last-clause-added t c = grind (arith, common_steps, publishes-first)
