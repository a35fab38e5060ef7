use Rattle.std.proofs.Common.{rules, ◌+◌, ◌-◌, ◌%◌, ◌^◌, arith}
use Rattle.history_lock.proofs.Keeps.{draws, stays_aside}
use Rattle.history_lock.proofs.lock.HistoryLock.queue.Goals as goal

pub fetch_add-turn-requires : goal.fetch_add-turn-requires
fetch_add-turn-requires g c = (search rules, search rules, draws _ _ _ _ _ _ c.requires.outside)

pub fetch_add-requires : goal.fetch_add-requires
fetch_add-requires g c = (search rules, search rules, stays_aside _ _ _ _ _ _ _ (λ n. (n + 1) % 2 ^ 64) (omega arith))

pub fetch_sub-requires : goal.fetch_sub-requires
fetch_sub-requires g c = (search rules, search rules, stays_aside _ _ _ _ _ _ _ (λ n. (n + (2 ^ 64 - 1)) % 2 ^ 64) (omega arith))
