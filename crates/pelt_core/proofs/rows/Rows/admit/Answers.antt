use Rattle.std.proofs.{Common.arith, lemmas.Grind.common_steps}
use Rattle.pelt_core.proofs.rows.Rows.admit.Goals as goal

pub returns : goal.returns
returns c = grind (arith, common_steps)
