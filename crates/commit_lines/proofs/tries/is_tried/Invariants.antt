use Rattle.std.proofs.Common.{ℕ, ◌<◌, ◌++◌}
use Rattle.commit_lines.specs.{Ends.end_at, HasRead.SaysName}
use Rattle.commit_lines.proofs.tries.is_tried.Given as goal

-- no end so far makes it say a name
abbrev pub invariant-loop-number : goal.invariant-loop-number
invariant-loop-number l = (k : ℕ) → k < l.number → ¬ SaysName (l.line ++ end_at k)
