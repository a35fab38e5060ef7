use Rattle.std.{proofs.Common.{pos, arith}, specs.Int.w128, proofs.lemmas.Int.to_z-of_z, proofs.lemmas.Result.on_err_weaker, proofs.lemmas.Grind.common_steps}
use Rattle.fixed_value.proofs.Powers.{high_power_above, told_not_below}
use Rattle.fixed_value.proofs.scaled.at_power.Goals as goal

pub returns-else-power-lt0-clause-err : goal.returns-else-power-lt0-clause-err
returns-else-power-lt0-clause-err c = grind (arith, common_steps, w128, pos, told_not_below, to_z-of_z, on_err_weaker, high_power_above)
