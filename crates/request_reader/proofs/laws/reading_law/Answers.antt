use Rattle.request_reader.proofs.OneReading.{one_reading, pieces_are_first}
use Rattle.request_reader.proofs.laws.reading_law.Goals as goal

pub returns-clause-one : goal.returns-clause-one
returns-clause-one c = one_reading c.lines_law.ensures.end c.one_item_law.ensures

pub returns-clause-first : goal.returns-clause-first
returns-clause-first c = pieces_are_first c.lines_law.ensures.end c.one_item_law.ensures
