use Rattle.std.proofs.Common.{rules, arith}
use Rattle.history_lock.proofs.Keeps.{stays_aside}
use Rattle.history_lock.proofs.lock.HistoryLock.rest.Goals as goal

pub store-requires : goal.store-requires
store-requires g c = (search rules, search rules, stays_aside _ _ _ _ _ _ _ (λ _. 1) (omega arith))

pub store-requires-then-peek-serving : goal.store-requires-then-peek-serving
store-requires-then-peek-serving g c = (search rules, search rules, stays_aside _ _ _ _ _ _ _ (λ _. 1) (omega arith))
