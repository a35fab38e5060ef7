use Rattle.std.{proofs.Common.length, specs.Vec.Iter.into_iter_items}
use Rattle.track_room.proofs.states.+leave_rest.Given as goal

abbrev pub decreases-leave_rest : goal.decreases-leave_rest
decreases-leave_rest l = length (into_iter_items l.states)
