use Rattle.std.proofs.Common.{length}
use Rattle.worker_crew.proofs.last.+bisect_each.Given as goal

abbrev pub decreases-bisect_each : goal.decreases-bisect_each
decreases-bisect_each g l = length l.states.now
