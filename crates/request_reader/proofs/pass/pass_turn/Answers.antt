use Rattle.std.proofs.{Common.{length, arith}, lemmas.Grind.common_steps}
use Rattle.request_reader.proofs.Passing.{passes_use}
use Rattle.request_reader.proofs.pass.pass_turn.Goals as goal

pub returns-then-count-kept-clause-ok : goal.returns-then-count-kept-clause-ok
returns-then-count-kept-clause-ok g c = grind (arith, common_steps, length, passes_use)
