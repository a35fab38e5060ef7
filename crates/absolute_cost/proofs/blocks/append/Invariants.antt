use Rattle.std.proofs.Common.{◌≡◌, ◌≤◌, ◌++◌, take, vec_capacity}
use Rattle.absolute_cost.proofs.blocks.append.Given as goal

abbrev pub invariant-loop-x : goal.invariant-loop-x
invariant-loop-x l = (l.list.items ≡ l.fn.list.items ++ take l.x-index l.values) × (vec_capacity l.fn.list ≤ vec_capacity l.list)
