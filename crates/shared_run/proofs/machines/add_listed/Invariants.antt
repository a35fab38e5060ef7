use Rattle.std.proofs.Common.{◌≡◌, ◌≤◌, length, take}
use Rattle.metric_table.specs.{Limits.most, declared.limits.Limit.TheVariants.Machines}
use Rattle.shared_run.specs.Lists.{with_listed}
use Rattle.shared_run.proofs.machines.add_listed.Given as goal

abbrev pub invariant-loop-i : goal.invariant-loop-i
invariant-loop-i l =
    (l.machines.items ≡ with_listed l.initial.machines.items (take l.i l.list))
    × (length l.machines.items ≤ most Machines)
