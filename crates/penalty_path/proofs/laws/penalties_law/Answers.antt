use Rattle.penalty_path.proofs.Penalties.{cuts-fall, count-is-list, between-is-same}
use Rattle.penalty_path.proofs.laws.penalties_law.Goals as goal

pub returns-clause-fall : goal.returns-clause-fall
returns-clause-fall c = cuts-fall c.best_list_law.ensures.unique

pub returns-clause-count : goal.returns-clause-count
returns-clause-count c = count-is-list

pub returns-clause-between : goal.returns-clause-between
returns-clause-between c = between-is-same c.best_list_law.ensures.exists c.best_list_law.ensures.unique
