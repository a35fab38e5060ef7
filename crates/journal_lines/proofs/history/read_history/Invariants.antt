use Rattle.std.proofs.Common.{◌-◌, length}
use Rattle.journal_lines.proofs.OneMore.{Loop}
use Rattle.journal_lines.proofs.history.read_history.Given as goal

abbrev pub invariant-loop-alloc : goal.invariant-loop-alloc
invariant-loop-alloc l = Loop l.scripts l.count l.fn.lines l.lines l.kept l.history.items

abbrev pub decreases-loop-alloc : goal.decreases-loop-alloc
decreases-loop-alloc l = l.count - length l.history.items
