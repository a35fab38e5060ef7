use Rattle.std.proofs.{Common.{length, arith}, lemmas.List.length-map, lemmas.Grind.common_steps}
use Rattle.shared_run.proofs.Workers.{splits-go-on}
use Rattle.shared_run.proofs.run.split_for.Goals as goal

pub returns-clause-ok : goal.returns-clause-ok
returns-clause-ok c = grind (arith, common_steps, splits-go-on, length-map, length)
