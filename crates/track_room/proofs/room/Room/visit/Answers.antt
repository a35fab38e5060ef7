use Rattle.std.{proofs.Common.{◌≡◌, List, length, map, set, ap, subst, ◌∙◌, Some, refl, arith}, specs.Prelude.slice_get, proofs.lemmas.Grind.common_steps}
use Rattle.track_room.specs.{Asked.ChangesAt, Rooms.{IsPassOf, badge}, Sights.{Sight, Visits}}
use Rattle.track_room.proofs.{Standing.{get-at, same-map, still-of, visits-badge}, room.Room.visit.Given.Over, room.Room.visit.Goals.After-index_mut}
use Rattle.track_room.proofs.room.Room.visit.Goals as goal

at : (g : Over) (c : After-index_mut g) → slice_get c.pass.inside.machines.items c.args.machine ≡ Some c.index_mut.result.now
at g c = grind (arith, common_steps, length, get-at)

pub visit-requires-clause-needs : goal.visit-requires-clause-needs
visit-requires-clause-needs g c =
    c.requires.needs c.index_mut.result.now
    (subst (λ (ss : List Sight). slice_get ss c.args.machine ≡ Some c.index_mut.result.now) c.pass.view_is (at g (goal.at.visit-requires-clause-needs g c).After-index_mut))

pub returns-clause-room : goal.returns-clause-room
returns-clause-room g c =
    let xs : List Sight = c.pass.inside.machines.items in
    let is : IsPassOf c.args.self.now xs = ap (λ (ss : List Sight). map (λ (s : Sight). s.home) ss) c.pass.view_is ∙ c.requires.room in
    still-of c.args.self.now xs c.args.machine c.index_mut.result.now c.visit.new.pass is (at g (goal.at.returns-clause-room g c).After-index_mut)
    (visits-badge _ c.index_mut.result.now c.visit.new.pass c.visit.ensures)

pub returns-clause-same : goal.returns-clause-same
returns-clause-same g c =
    same-map badge c.pass.inside.machines.items c.args.machine c.index_mut.result.now c.visit.new.pass (at g (goal.at.returns-clause-same g c).After-index_mut)
    (visits-badge _ c.index_mut.result.now c.visit.new.pass c.visit.ensures)
    ∙ ap (λ (ss : List Sight). map badge ss) c.pass.view_is

pub returns-clause-visits : goal.returns-clause-visits
returns-clause-visits g c =
    let xs : List Sight = c.pass.inside.machines.items in
    let new : Sight = c.visit.new.pass in
    subst (λ (ss : List Sight). ChangesAt c.args.machine (Visits (g.A.Act.does c.args.act c.visit.result)) ss (set xs c.args.machine new)) c.pass.view_is
    (record { before = c.index_mut.result.now; there = at g (goal.at.returns-clause-visits g c).After-index_mut; after = new; becomes = c.visit.ensures; changed = refl })
