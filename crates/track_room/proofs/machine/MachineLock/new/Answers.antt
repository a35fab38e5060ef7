use Rattle.std.proofs.Common.{◌∙◌}
use Rattle.history_lock.specs.declared.lock.Pass.{Pass}
use Rattle.history_model.specs.declared.entries.Placed.{Placed}
use Rattle.track_room.{specs.declared.guarded.Guarded.Guarded, specs.declared.guarded.Owner.Owner, proofs.Known.{first-of, home-of}}
use Rattle.track_room.proofs.machine.MachineLock.new.Goals as goal

pub returns : goal.returns
returns c =
    let made = c.in_ok-lock.ensures in
    let p : Pass Guarded Placed Owner = c.in_ok-lock.pass in (
      home-of p c.args.work.track _ _ made.pass.0.0 made.seen.1 (c.in_ok-machine.ensures ∙ c.machine.ensures),
      first-of p c.args.work.track made.seen.1 made.seen.0 made.marks.0 made.marks.1 made.marks.2,
    )
