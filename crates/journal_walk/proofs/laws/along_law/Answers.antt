use Rattle.journal_walk.proofs.Along.{begins-along, stays-along}
use Rattle.journal_walk.proofs.laws.along_law.Goals as goal

pub returns-clause-begins : goal.returns-clause-begins
returns-clause-begins c = begins-along

pub returns-clause-stays : goal.returns-clause-stays
returns-clause-stays c = stays-along
