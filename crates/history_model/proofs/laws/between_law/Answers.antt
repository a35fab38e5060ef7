use Rattle.history_model.proofs.Between.{between-rise, between-two}
use Rattle.history_model.proofs.laws.between_law.Goals as goal

pub returns-clause-rise : goal.returns-clause-rise
returns-clause-rise c = between-rise

pub returns-clause-two : goal.returns-clause-two
returns-clause-two c = between-two
