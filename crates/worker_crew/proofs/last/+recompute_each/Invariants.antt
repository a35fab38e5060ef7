use Rattle.std.proofs.Common.{length}
use Rattle.worker_crew.proofs.last.+recompute_each.Given as goal

abbrev pub decreases-recompute_each : goal.decreases-recompute_each
decreases-recompute_each l = length l.states.now
