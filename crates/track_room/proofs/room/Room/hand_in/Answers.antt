use Rattle.std.{proofs.Common.{ap, subst, sym, ◌∙◌, Option}, specs.Prelude.unwrap_or}
use Rattle.track_state.specs.Made.{IsMadeFrom}
use Rattle.track_room.{specs.Sights.Sight, specs.Taking.{Publishes, seen_of}, proofs.Segments.made-still, proofs.Standing.below-get}
use Rattle.track_room.proofs.Visited.{changed-err, changed-ok}
use Rattle.track_room.proofs.room.Room.hand_in.Goals as goal

pub visit-requires-clause-there : goal.visit-requires-clause-there
visit-requires-clause-there g c = below-get c.args.pass.now c.args.machine c.requires.made.0 c.requires.made.1

pub visit-requires-clause-needs : goal.visit-requires-clause-needs
visit-requires-clause-needs g c s at w is =
    let same = ap (λ (o : Option Sight). unwrap_or o s) (sym c.requires.made.1 ∙ at) in
    (made-still c.publication_law.ensures.versions s w c.args.redone.done is (subst (λ (t : Sight). IsMadeFrom (seen_of t) c.args.redone.done) same c.requires.made.2), c.requires.tabled)

pub returns-clause-ok : goal.returns-clause-ok
returns-clause-ok g c = changed-ok c.args.machine c.args.pass.now c.visit.new.pass (Publishes c.args.author c.args.redone.done) c.visit.result c.visit.ensures.visits

pub returns-clause-err : goal.returns-clause-err
returns-clause-err g c = changed-err c.args.machine c.args.pass.now c.visit.new.pass (Publishes c.args.author c.args.redone.done) c.visit.result c.visit.ensures.visits
