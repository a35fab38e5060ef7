use Rattle.std.{specs.Int.w128, proofs.lemmas.Int.to_z-of_z, proofs.Common.arith, proofs.lemmas.Grind.common_steps}
use Rattle.fixed_value.proofs.Powers.{on_err, scaled_above}
use Rattle.fixed_value.proofs.scaled.scale.Goals as goal

pub returns-in_err-magnitude-clause-err : goal.returns-in_err-magnitude-clause-err
returns-in_err-magnitude-clause-err c = grind (arith, common_steps, w128, on_err, scaled_above, to_z-of_z)
