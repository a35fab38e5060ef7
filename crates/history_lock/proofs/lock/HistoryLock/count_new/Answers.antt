use Rattle.std.proofs.Common.{rules, Bool, subst}
use Rattle.history_lock.{specs.Steps.{MayAdd, in_slot}, proofs.Keeps.counts}
use Rattle.history_lock.proofs.lock.HistoryLock.count_new.Goals as goal

pub fetch_add-requires : goal.fetch_add-requires
fetch_add-requires g c =
    let h = subst (λ (b : Bool). MayAdd b (in_slot g.S.Historied.history c.args.seat.now.me.1) c.args.seat.now.me.0.seen) c.if-not-is_longer.false c.requires.history in
    let carries = c.requires.carries in
    (search rules, search rules, counts _ _ _ _ _ _ carries.0.0 h.0 carries.0.1 h.1 h.2)
