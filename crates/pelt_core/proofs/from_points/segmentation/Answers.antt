use Rattle.std.{specs.Int.w128, proofs.lemmas.Int.to_z-of_z, proofs.Common.arith, proofs.lemmas.Grind.common_steps}
use Rattle.pelt_core.proofs.from_points.segmentation.Goals as goal

pub returns : goal.returns
returns c = grind (arith, common_steps, to_z-of_z, w128)
