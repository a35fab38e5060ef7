use Rattle.std.proofs.Common.{length}
use Rattle.shared_run.proofs.leaving.+histories_law.Given as goal

abbrev pub decreases-histories_law : goal.decreases-histories_law
decreases-histories_law l = length l.machines.now
