use Rattle.distance_model.proofs.Middles.{middle-is-centre, centre-unique, least-computed}
use Rattle.distance_model.proofs.laws.absolute_law.Goals as goal

pub returns-clause-middle : goal.returns-clause-middle
returns-clause-middle c = middle-is-centre

pub returns-clause-unique : goal.returns-clause-unique
returns-clause-unique c = centre-unique

pub returns-clause-least : goal.returns-clause-least
returns-clause-least c = least-computed
