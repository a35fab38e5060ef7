use Rattle.std.proofs.{Common.{◌≡◌, List, length, sym, ap, ap₂, ◌∙◌, arith}, lemmas.Grind.common_steps}
use Rattle.std.proofs.lemmas.{Iterator.Adapters.YieldsList-from_vec, Iterator.Consumers.YieldsList-end, List.{length-map, map_push}}
use Rattle.track_state.specs.Work.{Work}
use Rattle.track_room.{specs.Sights.{Home, Sight, IsFirstOf, tracks_of}, proofs.Splits.begin-first, proofs.Places.{zip-push, zip-long}}
use Rattle.track_room.proofs.room.Room.new.Goals as goal

pub loop-state-preserved : goal.loop-state-preserved
loop-state-preserved c = grind (arith, common_steps, map_push, ap₂, zip-push, tracks_of)

pub invariant_of-result : goal.invariant_of-result
invariant_of-result c =
    let before = c.loop-state.invariant in
    let sights : List Sight = c.loop-state.passes.items in
    let gives = c.into_iter-state-iterator.ensures.into_iter_gives in
    let ended = YieldsList-end (YieldsList-from_vec c.args.states.items gives.0 (gives.1 ∙ c.args.states.ok.0)) c.loop-state.yielded c.loop-state.state-iterator c.loop-state.yielded_by c.next.result c.next.new.self c.in-None.is c.next.ensures.steps in
    let same : length c.loop-state.machines.items ≡ length sights = ap (λ (hs : List Home). length hs) (sym before.2) ∙ length-map sights (λ (s : Sight). s.home) in
    let long = zip-long IsFirstOf (tracks_of c.loop-state.yielded) sights before.3 in
    let many = length-map c.loop-state.yielded (λ (w : Work). w.track) in
    let size = c.args.states.ok.0 in
    let room = c.in_ok-ended.ensures.capacity in (
      omega (arith, same, long, many, ended.1, c.requires.few),
      c.in_ok-ended.ensures.items,
      omega (arith, same, long, many, ended.1, room, size),
    )

pub returns-clause-pass : goal.returns-clause-pass
returns-clause-pass c = (c.loop-state.invariant.2, begin-first (tracks_of c.loop-state.yielded) c.loop-state.passes.items c.loop-state.invariant.3)
