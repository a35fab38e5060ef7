use Rattle.std.proofs.{Common.{get_or, arith}, lemmas.Grind.common_steps}
use Rattle.json_text.proofs.Reach.{cut_behind}
use Rattle.json_text.proofs.machine.read_quoted.Goals as goal

pub read_content-requires : goal.read_content-requires
read_content-requires c = grind (arith, common_steps, get_or, cut_behind)
