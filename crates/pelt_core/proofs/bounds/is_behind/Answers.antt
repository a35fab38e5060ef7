use Rattle.std.proofs.{Common.arith, lemmas.Grind.common_steps}
use Rattle.pelt_core.proofs.bounds.is_behind.Goals as goal

pub overflow_add-bound : goal.overflow_add-bound
overflow_add-bound g c = grind (arith, common_steps)

pub returns-clause-behind : goal.returns-clause-behind
returns-clause-behind g c first x i from above more = grind (arith, common_steps)
