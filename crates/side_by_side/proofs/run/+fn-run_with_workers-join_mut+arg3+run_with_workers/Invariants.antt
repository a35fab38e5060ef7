use Rattle.std.proofs.Common.{length}
use Rattle.side_by_side.proofs.run.+fn-run_with_workers-join_mut+arg3+run_with_workers.Given as goal

abbrev pub decreases-join_mut+arg3 : goal.decreases-join_mut+arg3
decreases-join_mut+arg3 g l = length l.rest.now

abbrev pub decreases-run_with_workers : goal.decreases-run_with_workers
decreases-run_with_workers g l = length l.workers.now
