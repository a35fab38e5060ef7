use Rattle.std.proofs.Common.{sym, subst}
use Rattle.history_lock.specs.declared.lock.Pass.{Pass}
use Rattle.history_model.specs.declared.entries.Placed.{Placed}
use Rattle.track_room.specs.{declared.guarded.Guarded.Guarded, declared.guarded.Owner.Owner, Inside.sight_of, Sights.{Ends, EndsWhole, IsWholeSight, Sight}}
use Rattle.track_model.specs.Tracks.{Track}
use Rattle.track_room.proofs.Known.{ends, ends-whole}
use Rattle.track_room.proofs.machine.MachineLock.close.Goals as goal

pub returns-in-Err-clause-whole : goal.returns-in-Err-clause-whole
returns-in-Err-clause-whole c whole =
    let p : Pass Guarded Placed Owner = c.pass.inside.pass in
    let w : IsWholeSight (sight_of p) = subst (λ (s : Sight). IsWholeSight s) (sym c.pass.view_is) whole in
    c.in-Err.ensures.whole w c.pass.invariant.outside

pub returns-in-Ok-clause-ok : goal.returns-in-Ok-clause-ok
returns-in-Ok-clause-ok c =
    let p : Pass Guarded Placed Owner = c.pass.inside.pass in
    let t : Track = c.in-Ok.field-0.work.track in
    subst (λ (s : Sight). Ends s t) c.pass.view_is (ends p t c.in-Ok.ensures.ok.0 c.in-Ok.ensures.ok.1)

pub returns-in-Ok-clause-whole : goal.returns-in-Ok-clause-whole
returns-in-Ok-clause-whole c whole =
    let p : Pass Guarded Placed Owner = c.pass.inside.pass in
    let t : Track = c.in-Ok.field-0.work.track in
    let w : IsWholeSight (sight_of p) = subst (λ (s : Sight). IsWholeSight s) (sym c.pass.view_is) whole in
    subst (λ (s : Sight). EndsWhole s t) c.pass.view_is (ends-whole p t c.in-Ok.ensures.ok.0 (c.in-Ok.ensures.whole w c.pass.invariant.outside))
