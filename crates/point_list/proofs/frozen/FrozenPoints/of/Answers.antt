use Rattle.std.{proofs.Common.{◌-◌, length, arith}, specs.Arc.arc_value, proofs.lemmas.Grind.common_steps}
use Rattle.point_list.{specs.Blocks.joined, proofs.Joined.{same-full, whole}}
use Rattle.point_list.proofs.frozen.FrozenPoints.of.Goals as goal

pub invariant_of-new : goal.invariant_of-new
invariant_of-new c = grind (arith, common_steps, joined, arc_value, whole, length, same-full)

pub invariant_of-result : goal.invariant_of-result
invariant_of-result c = grind (arith, common_steps, joined, arc_value, whole, length)

pub returns : goal.returns
returns c = grind (arith, common_steps, whole, arc_value, length)
