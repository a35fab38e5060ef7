use Rattle.play_audit.specs.Places.{IsBy}
use Rattle.play_audit.proofs.place.go_to.Given as goal
use Rattle.std.proofs.Common.{◌-◌, length}

abbrev pub invariant-loop-walk : goal.invariant-loop-walk
invariant-loop-walk l = IsBy l.fn.walk.track.machine l.fn.walk.history l.count l.walk

abbrev pub decreases-loop-walk : goal.decreases-loop-walk
decreases-loop-walk l = l.count - length l.walk.track.history
