use Rattle.std.proofs.Common.{length}
use Rattle.script_files.proofs.open.+open_rest.Given as goal

abbrev pub decreases-open_rest : goal.decreases-open_rest
decreases-open_rest g l = length l.scripts.now
