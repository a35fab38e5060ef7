use Rattle.std.proofs.{Common.{◌-◌, arith}, lemmas.Grind.common_steps}
use Rattle.pelt_core.proofs.rows.Rows.start.Goals as goal

pub returns-clause-pruned : goal.returns-clause-pruned
returns-clause-pruned c cost none = grind (arith, common_steps)
