use Rattle.std.proofs.{Common.arith, lemmas.Grind.common_steps}
use Rattle.script_files.proofs.FromStart.{open_from_start}
use Rattle.script_files.proofs.open.open_scripts.Goals as goal

pub returns-in-Ok-clause-open : goal.returns-in-Ok-clause-open
returns-in-Ok-clause-open g c = grind (arith, common_steps, open_from_start)
