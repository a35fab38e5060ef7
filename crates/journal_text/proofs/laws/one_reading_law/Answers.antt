use Rattle.journal_text.proofs.Readings.{one-reading}
use Rattle.journal_text.proofs.laws.one_reading_law.Goals as goal

pub returns : goal.returns
returns c = one-reading c.lines_law.ensures.texts
