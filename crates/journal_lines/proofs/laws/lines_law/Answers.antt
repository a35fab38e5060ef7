use Rattle.journal_lines.proofs.Unique.{heads_are_one, steps_are_one, one_text}
use Rattle.journal_lines.proofs.laws.lines_law.Goals as goal

pub returns-clause-heads : goal.returns-clause-heads
returns-clause-heads c = heads_are_one c.names_law.ensures.names c.numbers_law.ensures

pub returns-clause-steps : goal.returns-clause-steps
returns-clause-steps c = steps_are_one c.names_law.ensures.names c.numbers_law.ensures c.entries_law.ensures

pub returns-clause-texts : goal.returns-clause-texts
returns-clause-texts c = one_text c.names_law.ensures.names c.numbers_law.ensures c.entries_law.ensures
