use Rattle.history_model.proofs.Publishing.{cuts-grow, published-last, published-stays}
use Rattle.history_model.proofs.Standing.{publications-stand, last-stands, versions-stay, known-stays}
use Rattle.history_model.proofs.laws.publication_law.Goals as goal

pub returns-clause-last : goal.returns-clause-last
returns-clause-last c = published-last

pub returns-clause-stays : goal.returns-clause-stays
returns-clause-stays c = published-stays

pub returns-clause-cuts : goal.returns-clause-cuts
returns-clause-cuts c = cuts-grow

pub returns-clause-stand : goal.returns-clause-stand
returns-clause-stand c = publications-stand

pub returns-clause-last_stands : goal.returns-clause-last_stands
returns-clause-last_stands c = last-stands

pub returns-clause-versions : goal.returns-clause-versions
returns-clause-versions c = versions-stay

pub returns-clause-known : goal.returns-clause-known
returns-clause-known c = known-stays
