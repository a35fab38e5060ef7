use Rattle.std.proofs.{Common.arith, lemmas.Grind.common_steps}
use Rattle.lnt_report.proofs.Due.{same_answer, same_fault}
use Rattle.lnt_report.proofs.report.read_report.Goals as goal

pub returns-in-Ok-clause-only : goal.returns-in-Ok-clause-only
returns-in-Ok-clause-only c = grind (arith, common_steps, same_answer)

pub returns-in-Err-clause-only : goal.returns-in-Err-clause-only
returns-in-Err-clause-only c = grind (arith, common_steps, same_fault)
