use Rattle.std.proofs.{Common.{◌-◌, drop, take, arith}, lemmas.Grind.common_steps}
use Rattle.point_list.proofs.Gaps.{closed-up, closed-down}
use Rattle.point_list.proofs.stored.close_gap.Goals as goal

pub returns-then-low-end-clause-up : goal.returns-then-low-end-clause-up
returns-then-low-end-clause-up c less = grind (arith, common_steps, drop, take, closed-up)

pub returns-else-low-end-clause-down : goal.returns-else-low-end-clause-down
returns-else-low-end-clause-down c most = grind (arith, common_steps, drop, take, closed-down)
