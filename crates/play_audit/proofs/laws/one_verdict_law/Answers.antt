use Rattle.std.proofs.{Common.arith, lemmas.Grind.common_steps}
use Rattle.play_audit.proofs.OneVerdict.{one_cut_off, one_verdict}
use Rattle.play_audit.proofs.laws.one_verdict_law.Goals as goal

pub returns-clause-verdict : goal.returns-clause-verdict
returns-clause-verdict c = grind (arith, common_steps, one_verdict)

pub returns-clause-cut_off : goal.returns-clause-cut_off
returns-clause-cut_off c = one_cut_off c.reading_law.ensures.one
