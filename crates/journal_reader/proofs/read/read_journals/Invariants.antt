use Rattle.std.proofs.Common.{length}
use Rattle.journal_reader.proofs.Refusing.{SoFar}
use Rattle.journal_reader.proofs.read.read_journals.Given as goal

abbrev pub invariant-loop-lines : goal.invariant-loop-lines
invariant-loop-lines g l = SoFar l.scripts l.text l.lines l.journals.items

abbrev pub decreases-loop-lines : goal.decreases-loop-lines
decreases-loop-lines g l = length l.lines.rest
