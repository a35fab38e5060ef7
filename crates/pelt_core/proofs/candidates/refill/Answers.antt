use Rattle.std.proofs.{Common.arith, lemmas.Grind.common_steps}
use Rattle.pelt_core.proofs.Growth.{open-few}
use Rattle.pelt_core.proofs.candidates.refill.Goals as goal

pub push_reserved-requires : goal.push_reserved-requires
push_reserved-requires c = grind (arith, common_steps, open-few)
