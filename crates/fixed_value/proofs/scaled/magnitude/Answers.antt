use Rattle.std.{proofs.Common.{pos, arith}, specs.Int.w128, proofs.lemmas.Int.to_z-of_z, proofs.lemmas.Grind.common_steps}
use Rattle.fixed_value.proofs.Powers.{magnitude_of_zero, magnitude_above, told_below}
use Rattle.fixed_value.proofs.scaled.magnitude.Goals as goal

pub returns-then-digits-eq0-clause-ok : goal.returns-then-digits-eq0-clause-ok
returns-then-digits-eq0-clause-ok c = grind (arith, common_steps, pos, magnitude_of_zero)

pub returns-then-exponent-gt-HIGHEST_POWER-clause-err : goal.returns-then-exponent-gt-HIGHEST_POWER-clause-err
returns-then-exponent-gt-HIGHEST_POWER-clause-err c = grind (arith, common_steps, w128, pos, told_below, to_z-of_z, magnitude_above)
