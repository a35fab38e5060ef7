use Rattle.json_text.proofs.Exact.{one_answer}
use Rattle.lnt_report.proofs.Due.{one_due}
use Rattle.lnt_report.proofs.report.one_due_law.Goals as goal

pub returns : goal.returns
returns c = λ bytes a b. one_due bytes (one_answer bytes) c.value_law.ensures.one a b
