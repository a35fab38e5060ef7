use Rattle.std.proofs.{Common.arith, lemmas.Grind.common_steps}
use Rattle.worker_crew.proofs.Rests.{each-first}
use Rattle.worker_crew.proofs.last.+bisect_each.Goals as goal

pub returns-in_err-bisect_last-clause-bisected : goal.returns-in_err-bisect_last-clause-bisected
returns-in_err-bisect_last-clause-bisected g t c = grind (arith, common_steps, each-first)
