use Rattle.std.proofs.{Common.arith, lemmas.Grind.common_steps}
use Rattle.pelt_core.proofs.bounds.moved.Goals as goal

pub returns-clause-moved : goal.returns-clause-moved
returns-clause-moved g c = grind (arith, common_steps)
