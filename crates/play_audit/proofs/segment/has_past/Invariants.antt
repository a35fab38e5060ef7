use Rattle.std.proofs.Common.{◌-◌, length}
use Rattle.play_audit.proofs.Passing.{Goes}
use Rattle.play_audit.proofs.segment.has_past.Given as goal

abbrev pub invariant-loop-past : goal.invariant-loop-past
invariant-loop-past l = Goes l.fn.past l.past (record { test = l.test; metric = l.metric }) l.to l.room

abbrev pub decreases-loop-past : goal.decreases-loop-past
decreases-loop-past l = l.to - length l.past.track.history
