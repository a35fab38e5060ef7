use Rattle.std.proofs.Common.{rules}
use Rattle.history_lock.proofs.Keeps.{draws_if_free}
use Rattle.history_lock.proofs.lock.HistoryLock.draw_if_free.Goals as goal

pub compare_exchange-requires : goal.compare_exchange-requires
compare_exchange-requires g c = (search rules, search rules, draws_if_free _ _ _ _ _ _ _ _ c.requires.outside (search rules))
