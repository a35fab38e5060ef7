use Rattle.std.proofs.Common.{All, take}
use Rattle.keep_rows.specs.Growth.{HasTextIfShort}
use Rattle.keep_rows.proofs.spelled.entries_fit.Given as goal

-- the entries so far
abbrev pub invariant-loop-k : goal.invariant-loop-k
invariant-loop-k l = All HasTextIfShort (take l.k l.machine.history)
