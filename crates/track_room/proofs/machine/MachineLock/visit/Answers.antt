use Rattle.std.proofs.{Common.{subst, refl, arith}, lemmas.Grind.common_steps}
use Rattle.history_lock.specs.declared.lock.Pass.{Pass}
use Rattle.history_model.specs.declared.entries.Placed.{Placed}
use Rattle.track_state.specs.Work.{Work}
use Rattle.track_room.specs.{declared.guarded.Guarded.Guarded, declared.guarded.Owner.Owner, Inside.sight_of, Sights.{Sight, Visits}}
use Rattle.track_room.proofs.Visiting.{is-found, visited}
use Rattle.track_room.proofs.machine.MachineLock.visit.Goals as goal

pub act-told-requires : goal.act-told-requires
act-told-requires g c = grind (arith, common_steps, is-found)

pub returns : goal.returns
returns g c =
    let p : Pass Guarded Placed Owner = c.pass.inside.pass in
    let p1 : Pass Guarded Placed Owner = c.enter-state.new.pass in
    let p2 : Pass Guarded Placed Owner = c.leave.new.pass in
    let w : Work = c.enter-state.result.work in
    let u : Work = c.act-told.new.state in
    subst (λ (s : Sight). Visits (g.A.Act.does c.args.act c.act-told.result) s (sight_of p2)) c.pass.view_is
    (visited p p1 p2 w.track u.track w u refl refl (g.A.Act.does c.args.act c.act-told.result) c.enter-state.ensures.pass.0 c.enter-state.ensures.seen c.enter-state.ensures.state.0 c.enter-state.ensures.state.1
    c.leave.ensures.pass.0 c.leave.ensures.seen c.leave.ensures.state c.act-told.ensures.grows c.act-told.ensures.does)
