use Rattle.std.proofs.{Common.arith, lemmas.Grind.common_steps}
use Rattle.worker_crew.proofs.{Quieting.players-quiet, Running.players-fit}
use Rattle.worker_crew.proofs.laws.run_law.Goals as goal

pub returns-clause-fits : goal.returns-clause-fits
returns-clause-fits c = players-fit

pub returns-clause-quiet : goal.returns-clause-quiet
returns-clause-quiet c = grind (arith, common_steps, players-quiet)
