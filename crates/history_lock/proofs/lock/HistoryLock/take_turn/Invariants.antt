use Rattle.std.proofs.Common.{◌≡◌}
use Rattle.history_lock.proofs.lock.HistoryLock.take_turn.Given as goal

abbrev pub invariant-loop-looks : goal.invariant-loop-looks
invariant-loop-looks g l = (l.seat.table_id ≡ l.initial.seat.table_id) × (l.seat.id ≡ l.initial.seat.id) × (l.seat.me ≡ l.initial.seat.me)
