use Rattle.std.{proofs.Common.{subst, arith}, specs.List.{AllByRecursion, AllZip}, proofs.lemmas.List.length-map, proofs.lemmas.Grind.common_steps}
use Rattle.worker_crew.specs.{Rooms.IsWhole, Sights.{IsFirstOf, tracks_of}, Work.Work}
use Rattle.shared_run.{specs.Ran.HasLegalHistory, proofs.AtLast.{finishes-less, first-true}, proofs.Beginning.room-different}
use Rattle.shared_run.proofs.{Fitted.{is-whole, left-long}, scripts.run_machines.Given.Over, scripts.run_machines.Goals.After-crew_law}
use Rattle.shared_run.proofs.scripts.run_machines.Goals as goal

module _ (g : Over) (c : After-crew_law g) where
  -- the first pass has seen what the machines had
  starts : AllZip IsFirstOf c.args.machines.items c.in-Ok-new.pass
  starts = rw c.in-Ok-unclaimed.ensures.tracks at c.in-Ok-new.ensures.first

  -- all others were joined into it
  whole : IsWhole c.run_players.new.pass
  whole = grind (arith, common_steps, is-whole, starts)

pub run_players-requires-clause-different : goal.run_players-requires-clause-different
run_players-requires-clause-different g c κs within = grind (arith, common_steps, room-different)

pub unreachable-requires : goal.unreachable-requires
unreachable-requires g c = c.in_default-close.ensures.whole (whole g (goal.at.unreachable-requires g c).After-crew_law)

pub finish-done-requires-clause-room : goal.finish-done-requires-clause-room
finish-done-requires-clause-room g c =
    let k = (goal.at.finish-done-requires-clause-room g c).After-crew_law in
    let long = left-long c.in-Ok-new.room c.in-Ok-new.pass c.run_players.new.pass c.args.machines.items (tracks_of c.in-Ok-close.left.items) c.in-Ok-new.ensures.pass.0 c.run_players.ensures.room.0
    (starts g k) (c.in-Ok-close.ensures.whole (whole g k)) in
    let many = length-map c.in-Ok-close.left.items (λ (w : Work). w.track) in
    let space = c.in-Ok.ensures.capacity in
    omega (arith, long, many, space, c.args.machines.ok.0)

pub returns-clause-ran : goal.returns-clause-ran
returns-clause-ran g c =
    let k = (goal.at.returns-clause-ran g c).After-crew_law in
    record {
      room = c.in-Ok-new.room;
      first = c.in-Ok-new.pass;
      last = c.run_players.new.pass;
      of_room = c.in-Ok-new.ensures.pass.0;
      starts = starts g k;
      worked = c.run_players.new.runners;
      ran = c.in-Ok-run_players.ensures.ran;
      whole = c.run_players.ensures.room.0;
      left = tracks_of c.in-Ok-close.left.items;
      closed = c.in-Ok-close.ensures.whole (whole g k);
      finishes = finishes-less g.N.Runner c.args.plan.now (tracks_of c.in-Ok-close.left.items) c.finish-done.result.0.items c.run_players.new.runners c.finish-done.new.runners c.finish-done.result.1 c.both.result
          (first-true c.finish-done.result.1 _ c.both.result c.both.ensures) c.finish-done.ensures.done;
      legal = subst (AllByRecursion HasLegalHistory) c.deref.ensures.value c.histories_law.ensures;
    }
