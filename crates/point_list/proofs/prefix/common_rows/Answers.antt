use Rattle.std.{proofs.Common.{◌≡◌, ◌+◌, length, cond, drop, arith}, specs.Arc.arc_value, proofs.lemmas.Grind.common_steps}
use Rattle.point_list.{specs.Places.common, specs.Blocks.joined, proofs.Joined.row-length, proofs.CommonFirst.{common-here, common-end-second}}
use Rattle.point_list.proofs.prefix.common_rows.Goals.{After-is_same}
use Rattle.point_list.proofs.prefix.common_rows.Goals as goal

pub overflow_mul-k : goal.overflow_mul-k
overflow_mul-k c = grind (arith, common_steps, length, row-length, arc_value)

pub loop-k-init : goal.loop-k-init
loop-k-init c = grind (arith, common_steps, common, drop, row-length, arc_value, joined, length)

pub returns-else-k-len : goal.returns-else-k-len
returns-else-k-len c = grind (arith, common_steps, common-end-second)

-- what the lists have in common from this place on
here : (c : After-is_same) → common (drop c.loop-k.k c.args.a.now) (drop c.loop-k.k c.args.b.now)
    ≡ cond c.is_same.result (common (drop (c.loop-k.k + 1) c.args.a.now) (drop (c.loop-k.k + 1) c.args.b.now) + 1) 0
here c = grind (arith, common_steps, common-here, cond, common, drop)

pub returns-then-not-is_same : goal.returns-then-not-is_same
returns-then-not-is_same c = grind (arith, common_steps, here, goal.at.returns-then-not-is_same, cond, common, drop)

pub loop-k-preserved : goal.loop-k-preserved
loop-k-preserved c = grind (arith, common_steps, here, goal.at.loop-k-preserved, cond, common, drop)
