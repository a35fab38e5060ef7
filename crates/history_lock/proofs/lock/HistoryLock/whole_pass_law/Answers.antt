use Rattle.history_lock.proofs.Joins.{only_one}
use Rattle.history_lock.proofs.lock.HistoryLock.whole_pass_law.Goals as goal

pub returns : goal.returns
returns g c = record { alone = only_one g.S.Historied.history g.S.Historied.label }
