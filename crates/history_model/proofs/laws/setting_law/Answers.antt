use Rattle.history_model.proofs.Tunings.{setting-set, setting-stays}
use Rattle.history_model.proofs.laws.setting_law.Goals as goal

pub returns-clause-set : goal.returns-clause-set
returns-clause-set c = setting-set

pub returns-clause-stays : goal.returns-clause-stays
returns-clause-stays c = setting-stays
