use Rattle.std.{proofs.Common.{take, drop, arith}, specs.Int.w64, proofs.lemmas.Int.to_z-of_z, proofs.lemmas.Grind.common_steps}
use Rattle.point_list.{specs.Stored.half, proofs.Samples.samples-put}
use Rattle.point_list.proofs.stored.put_after.Goals as goal

pub returns-clause-put : goal.returns-clause-put
returns-clause-put c = grind (arith, common_steps, w64, take, half, drop, to_z-of_z, samples-put)
