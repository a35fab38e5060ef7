use Rattle.std.proofs.Common.{length}
use Rattle.tracker_top.proofs.naming.+put_script_too_long.Given as goal

abbrev pub decreases-put_script_too_long : goal.decreases-put_script_too_long
decreases-put_script_too_long g l = length l.scripts.now
