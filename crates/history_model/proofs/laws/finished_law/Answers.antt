use Rattle.history_model.proofs.Finished.{finish-well}
use Rattle.history_model.proofs.laws.finished_law.Goals as goal

pub returns : goal.returns
returns c = finish-well c.bound_law.ensures c.ends_law.ensures c.found_law.ensures
