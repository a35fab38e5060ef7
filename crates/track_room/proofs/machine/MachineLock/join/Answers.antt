use Rattle.std.proofs.Common.{sym, ap, ◌∙◌}
use Rattle.history_lock.specs.declared.lock.Pass.{Pass}
use Rattle.history_model.specs.declared.entries.Placed.{Placed}
use Rattle.track_room.{specs.declared.guarded.Guarded.Guarded, specs.declared.guarded.Owner.Owner, specs.Sights.{Home, Sight}, proofs.Known.joins}
use Rattle.track_room.proofs.machine.MachineLock.join.Goals as goal

pub returns : goal.returns
returns c =
    let after = c.join.ensures.pass in
    let p : Pass Guarded Placed Owner = c.pass.inside.pass in
    let w : Pass Guarded Placed Owner = c.other.inside.pass in
    let q : Pass Guarded Placed Owner = c.join.new.pass in
    let lock = ap (λ (h : Home). h.lock) (ap (λ (s : Sight). s.home) c.pass.view_is ∙ c.requires.lock.0 ∙ sym c.self.view_is) in
    rw (← c.pass.view_is, ← c.other.view_is) (joins p w q (after.0.0 ∙ sym lock) after.2 after.3 after.4 c.join.ensures.joined)
