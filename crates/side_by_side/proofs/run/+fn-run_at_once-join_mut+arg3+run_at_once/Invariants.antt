use Rattle.std.proofs.Common.{length}
use Rattle.side_by_side.proofs.run.+fn-run_at_once-join_mut+arg3+run_at_once.Given as goal

abbrev pub decreases-join_mut+arg3 : goal.decreases-join_mut+arg3
decreases-join_mut+arg3 g l = length l.rest.now

abbrev pub decreases-run_at_once : goal.decreases-run_at_once
decreases-run_at_once g l = length l.jobs.now
