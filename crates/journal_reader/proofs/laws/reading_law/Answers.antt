use Rattle.journal_reader.proofs.Unique.{one_reading}
use Rattle.journal_reader.proofs.laws.reading_law.Goals as goal

pub returns : goal.returns
returns c = one_reading c.lines_law.ensures.texts
