use Rattle.play_audit.proofs.Reading.{Going, left_of}
use Rattle.play_audit.proofs.items.items_of.Given as goal

abbrev pub invariant-loop-alloc : goal.invariant-loop-alloc
invariant-loop-alloc l = Going l.script l.lines l.source l.items.items

abbrev pub decreases-loop-alloc : goal.decreases-loop-alloc
decreases-loop-alloc l = left_of l.lines
