use Rattle.std.proofs.Common.{length}
use Rattle.shared_run.proofs.stop.+wants_memory.Given as goal

abbrev pub decreases-wants_memory : goal.decreases-wants_memory
decreases-wants_memory l = length l.scripts.now
