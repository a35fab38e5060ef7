use Rattle.std.{proofs.Common.{◌≡◌, ◌<◌, List, [], ◌∷◌, ◌++◌, length, get_or, ◌∙◌, arith}, specs.List.AllZip, proofs.lemmas.Grind.common_steps}
use Rattle.std.proofs.lemmas.{Iterator.Adapters.YieldsList-from_vec, Iterator.Consumers.YieldsList-turn, List.{length-map, length_push, map_push}}
use Rattle.track_model.specs.Tracks.{Track}
use Rattle.track_state.specs.Work.{Work}
use Rattle.track_room.{specs.Sights.{Sight, Ends, EndsWhole, IsWholeSight, tracks_of}, proofs.Places.{all-at, moved-on, next-is, zip-long, zip-push}}
use Rattle.track_room.proofs.closing.close_each.Goals as goal
use Rattle.track_room.proofs.closing.close_each.Goals.{In-Some-next}

turn : (c : In-Some-next) → (length c.loop-pass.yielded < length c.args.passes.items) × (c.in-Some.pass ≡ get_or c.args.passes.items (length c.loop-pass.yielded) c.in-Some.pass)
turn c =
    let gives = c.into_iter-pass-iterator.ensures.into_iter_gives in
    YieldsList-turn (YieldsList-from_vec c.args.passes.items gives.0 (gives.1 ∙ c.args.passes.ok.0)) c.loop-pass.yielded c.loop-pass.pass-iterator c.loop-pass.yielded_by c.next.result c.next.new.self c.in-Some.pass c.in-Some.is c.next.ensures.steps

home-is : (c : In-Some-next) → c.in-Some.pass.home ≡ c.in-Some-next.lock
home-is c =
    next-is (λ (s : Sight). s.home) c.args.passes.items c.loop-pass.yielded c.args.machines.items c.loop-pass.locks.rest.items c.next-in-loop-pass.new.self.rest.items
    c.in-Some.pass c.in-Some-next.lock c.requires.locks c.loop-pass.invariant.3 c.in-Some-next.ensures.items (turn c).0 (turn c).1

pub close-requires : goal.close-requires
close-requires c = record { lock = home-is c }

pub push_reserved-requires : goal.push_reserved-requires
push_reserved-requires c =
    let before = c.loop-pass.invariant in
    let t = turn (goal.at.push_reserved-requires c).In-Some-next in
    let wide = before.6 in
    let within = t.0 in
    let same = zip-long Ends c.loop-pass.yielded (tracks_of c.loop-pass.states.items) before.4 in
    let many = length-map c.loop-pass.states.items (λ (w : Work). w.track) in
    let len = c.loop-pass.states.ok.0 in
    omega (arith, wide, within, same, many, len)

pub returns-in-Err-clause-whole : goal.returns-in-Err-clause-whole
returns-in-Err-clause-whole c whole =
    let t = turn (goal.at.returns-in-Err-clause-whole c).In-Some-next in
    let p : IsWholeSight c.in-Some.pass = all-at IsWholeSight c.args.passes.items (length c.loop-pass.yielded) c.in-Some.pass whole t.0 t.1 in
    c.in-Err.ensures.whole p

-- one more machine behind those that were given
more : (E : Sight → Track → Type 0) (given : List Sight) (states : List Work) (p : Sight) (w : Work) → AllZip E given (tracks_of states) → E p w.track → AllZip E (given ++ p ∷ []) (tracks_of (states ++ w ∷ []))
more E given states p w all one = grind (arith, common_steps, map_push, zip-push, tracks_of)

pub loop-pass-preserved : goal.loop-pass-preserved
loop-pass-preserved c =
    let before = c.loop-pass.invariant in
    let given : List Sight = c.loop-pass.yielded in
    let p : Sight = c.in-Some.pass in
    let here = (goal.at.loop-pass-preserved c).In-Some-next in
    let t = turn here in (
      tt,
      tt,
      omega (arith, before.2, length_push given p),
      moved-on (λ (s : Sight). s.home) given c.args.machines.items c.loop-pass.locks.rest.items c.next-in-loop-pass.new.self.rest.items p c.in-Some-next.lock before.3 c.in-Some-next.ensures.items (home-is here),
      rw c.push_reserved.ensures.items (more Ends given c.loop-pass.states.items p c.in-Ok.state before.4 c.in-Ok.ensures.ok),
      λ whole. rw c.push_reserved.ensures.items (more EndsWhole given c.loop-pass.states.items p c.in-Ok.state (before.5 whole) (c.in-Ok.ensures.whole (all-at IsWholeSight c.args.passes.items (length given) p whole t.0 t.1))),
      (let wide = before.6 in let kept = c.push_reserved.ensures.capacity in omega (arith, wide, kept)),
    )
