use Rattle.journal_reader.proofs.OneRefusal.{none_refused, one_refusal}
use Rattle.journal_reader.proofs.laws.refusal_law.Goals as goal

pub returns-clause-one : goal.returns-clause-one
returns-clause-one c = one_refusal c.names_law.ensures.names c.lines_law.ensures.heads c.lines_law.ensures.steps

pub returns-clause-none : goal.returns-clause-none
returns-clause-none c = none_refused c.names_law.ensures.names c.lines_law.ensures.heads c.lines_law.ensures.steps
