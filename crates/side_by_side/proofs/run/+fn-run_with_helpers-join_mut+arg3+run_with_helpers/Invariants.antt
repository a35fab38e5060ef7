use Rattle.std.proofs.Common.{length}
use Rattle.side_by_side.proofs.run.+fn-run_with_helpers-join_mut+arg3+run_with_helpers.Given as goal

abbrev pub decreases-join_mut+arg3 : goal.decreases-join_mut+arg3
decreases-join_mut+arg3 g l = length l.rest.now

abbrev pub decreases-run_with_helpers : goal.decreases-run_with_helpers
decreases-run_with_helpers g l = length l.helpers.now
