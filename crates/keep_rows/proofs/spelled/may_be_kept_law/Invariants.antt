use Rattle.std.proofs.Common.{All, take}
use Rattle.keep_rows.specs.Growth.{MayBeKept}
use Rattle.keep_rows.proofs.spelled.may_be_kept_law.Given as goal

-- the machines so far
abbrev pub invariant-loop-machine : goal.invariant-loop-machine
invariant-loop-machine l = All MayBeKept (take l.machine-index l.machines)
