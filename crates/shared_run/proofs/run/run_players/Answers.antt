use Rattle.std.proofs.{Common.{◌≡◌, ◌++◌, ℕ, List, Ok, length, map, sym, subst, ap, ◌∙◌, arith}, lemmas.List.{length-map, length-take}}
use Rattle.std.{proofs.lemmas.Result.err_from_is_err_and, proofs.lemmas.Slice.Zip.AllZip-long, specs.List.{AllByRecursion, AllZip}}
use Rattle.std.{specs.Prelude.{Result, take, drop}, proofs.lemmas.Grind.common_steps}
use Rattle.command_words.specs.Texts.{shown}
use Rattle.script_files.specs.{Closing.{AreClosable, Closes}, Opening.{Asks, IsOpen}, declared.open.OpenScript.OpenScript}
use Rattle.script_loop.specs.declared.stop.Stop.{Stop}
use Rattle.side_by_side.specs.Runs.{AllWorked}
use Rattle.worker_crew.specs.{Sights.Sight, Players.{Playing, Plays, end_of, open_of, players_from}}
use Rattle.worker_crew.specs.Players as players
use Rattle.worker_crew.specs.Workers as workers
use Rattle.worker_crew.specs.Workers.{Bisects, HaveWorked, IsOfRoom, Recomputes, Working, workers_from}
use Rattle.shared_run.{specs.Crews.word_of, proofs.Running.{can-play, closable-played, none-made, not-open, of-room, seated-all, shorter, still-of-room}}
use Rattle.shared_run.proofs.{Workers.{all-seated, bisectors-there, others-at, recomputers-there, worked-at, workers-long}, run.run_players.Given.Over}
use Rattle.shared_run.proofs.run.run_players.Goals as goal
use Rattle.shared_run.proofs.run.run_players.Goals.{After-run_crew}

pub returns-in_err-split-clause-early : goal.returns-in_err-split-clause-early
returns-in_err-split-clause-early g c = none-made g.F.Files c.args.plan.now.scripts c.args.files.now c.requires.scripts.some c.from_residual.result c.from_residual.ensures.1

pub returns-in_err-players-clause-early : goal.returns-in_err-players-clause-early
returns-in_err-players-clause-early g c = none-made g.F.Files c.args.plan.now.scripts c.args.files.now c.requires.scripts.some c.from_residual-in_err-players.result c.from_residual-in_err-players.ensures.1

pub returns-in_err-recomputers-clause-early : goal.returns-in_err-recomputers-clause-early
returns-in_err-recomputers-clause-early g c = none-made g.F.Files c.args.plan.now.scripts c.args.files.now c.requires.scripts.some c.from_residual-in_err-recomputers.result c.from_residual-in_err-recomputers.ensures.1

pub returns-in_err-bisectors-clause-early : goal.returns-in_err-bisectors-clause-early
returns-in_err-bisectors-clause-early g c = none-made g.F.Files c.args.plan.now.scripts c.args.files.now c.requires.scripts.some c.from_residual-in_err-bisectors.result c.from_residual-in_err-bisectors.ensures.1

pub returns-in_err-ended-clause-early : goal.returns-in_err-ended-clause-early
returns-in_err-ended-clause-early g c = none-made g.F.Files c.args.plan.now.scripts c.args.files.now c.requires.scripts.some c.from_residual-in_err-ended.result c.from_residual-in_err-ended.ensures.1

pub returns-in_err-left-clause-early : goal.returns-in_err-left-clause-early
returns-in_err-left-clause-early g c = none-made g.F.Files c.args.plan.now.scripts c.args.files.now c.requires.scripts.some c.from_residual-in_err-left.result c.from_residual-in_err-left.ensures.1

pub open_scripts-requires-clause-own : goal.open_scripts-requires-clause-own
open_scripts-requires-clause-own g c κs within = rw c.scripts.ensures c.requires.scripts.own

pub returns-in_err-opened-clause-early : goal.returns-in_err-opened-clause-early
returns-in_err-opened-clause-early g c = grind (arith, common_steps, err_from_is_err_and, not-open)

pub seat_scripts-requires-clause-paired : goal.seat_scripts-requires-clause-paired
seat_scripts-requires-clause-paired g c =
    let i = g.F.Input.Source in
    let opened = AllZip-long (IsOpen i g.F.Output.Sink (g.F.Files.contents c.args.files.now)) (shown c.scripts.result.now) c.in_ok-opened.opened.items c.in_ok-opened.ensures.open in
    let one = length-map c.scripts.result.now (λ s. s.now) in
    let two = length-map c.scripts-count.result.now (λ s. s.now) in
    let a = ap length c.scripts.ensures in
    let b = ap length c.scripts-count.ensures in
    let many = (c.in_ok-split.ensures.ok).of_scripts.many in
    omega (arith, opened, one, two, a, b, many)

pub seat_scripts-requires-clause-seated : goal.seat_scripts-requires-clause-seated
seat_scripts-requires-clause-seated g c = seated-all c.args.room.now c.in_ok-split.split.0.items c.requires.different (c.in_ok-split.ensures.ok).of_scripts.of_room

module _ (g : Over) (c : After-run_crew g) where
  abbrev Play : Type 0
  Play = Playing g.row.F-Input.Denot g.row.F-Output.Denot

  abbrev Open : Type 0
  Open = OpenScript g.row.F-Input.Denot g.row.F-Output.Denot

  abbrev passes : List (List Sight)
  passes = c.in_ok-split.split.0.items

  abbrev opened : List Open
  opened = c.in_ok-opened.opened.items

  abbrev played : List Play
  played = c.run_crew.new.players.items

  plays : AllZip (Plays g.F.Input.Source g.F.Output.Sink) (players_from c.args.room.now 1 passes opened) played
  plays = subst (λ (l : List Play). AllZip (Plays g.F.Input.Source g.F.Output.Sink) l played) c.seat_scripts.ensures c.run_crew.ensures.played

  pair : length passes ≡ length opened
  pair =
      let long = AllZip-long (IsOpen g.F.Input.Source g.F.Output.Sink (g.F.Files.contents c.args.files.now)) (shown c.scripts.result.now) opened c.in_ok-opened.ensures.open in
      let one = length-map c.scripts.result.now (λ s. s.now) in
      let is = ap length c.scripts.ensures in
      let many = c.in_ok-split.ensures.ok.of_scripts.many in
      omega (arith, long, one, is, many)

  size : length played ≡ length passes
  size = AllZip-long (Plays g.F.Input.Source g.F.Output.Sink) (players_from c.args.room.now 1 passes opened) played plays ∙ shorter c.args.room.now 1 passes opened pair

  -- each script has a seat
  seats : length played ≡ length c.scripts-count.result.now
  seats =
      let one = length-map c.scripts-count.result.now (λ s. s.now) in
      let is = ap length c.scripts-count.ensures in
      let many = c.in_ok-split.ensures.ok.of_scripts.many in
      omega (arith, size, one, is, many)

  still : AllByRecursion (players.IsOfRoom c.args.room.now) played
  still = still-of-room g.F.Input.Source g.F.Output.Sink c.args.room.now (players_from c.args.room.now 1 passes opened) played plays (of-room c.args.room.now 1 passes opened c.in_ok-split.ensures.ok.of_scripts.of_room)

  abbrev word : List ℕ
  word = word_of c.args.plan.now

  recomputed : AllZip Recomputes (workers_from c.args.room.now word 1 c.in_ok-split.split.1.items) c.run_crew.new.recomputers.items
  recomputed = grind (arith, common_steps)

  abbrev bisectors : List Working
  bisectors = workers_from c.args.room.now word 1 c.in_ok-split.split.2.items

  many : length bisectors ≡ c.args.plan.now.bisect
  many = workers-long c.args.room.now word 1 c.in_ok-split.split.2.items ∙ c.in_ok-split.ensures.ok.bisecting.many

  worked : HaveWorked g.N.Runner bisectors c.args.runners.now c.run_crew.new.bisectors.items c.run_crew.new.runners
  worked = grind (arith, common_steps)

  bisected : AllWorked (Bisects g.N.Runner) bisectors (take c.args.plan.now.bisect c.args.runners.now) c.run_crew.new.bisectors.items (take c.args.plan.now.bisect c.run_crew.new.runners)
  bisected = worked-at g.N.Runner c.args.plan.now.bisect bisectors c.run_crew.new.bisectors.items c.args.runners.now c.run_crew.new.runners many worked

  others : drop c.args.plan.now.bisect c.run_crew.new.runners ≡ drop c.args.plan.now.bisect c.args.runners.now
  others = others-at g.N.Runner c.args.plan.now.bisect bisectors c.run_crew.new.bisectors.items c.args.runners.now c.run_crew.new.runners many worked

pub run_crew-requires-clause-players : goal.run_crew-requires-clause-players
run_crew-requires-clause-players g c κs within = grind (arith, common_steps, can-play)

pub run_crew-requires-clause-recomputers : goal.run_crew-requires-clause-recomputers
run_crew-requires-clause-recomputers g c κs within = rw c.seat_workers.ensures (all-seated c.args.room.now c.word_in.result.now 1 c.in_ok-split.split.1.items c.in_ok-split.ensures.ok.recomputing.of_room)

pub run_crew-requires-clause-bisectors : goal.run_crew-requires-clause-bisectors
run_crew-requires-clause-bisectors g c κs within = rw c.seat_workers-2.ensures (all-seated c.args.room.now c.word_in.result.now 1 c.in_ok-split.split.2.items c.in_ok-split.ensures.ok.bisecting.of_room)

pub run_crew-requires-clause-enough : goal.run_crew-requires-clause-enough
run_crew-requires-clause-enough g c = grind (arith, common_steps, size, length, workers-long, many)

pub leave-requires-clause-players : goal.leave-requires-clause-players
leave-requires-clause-players g c = still g (goal.at.leave-requires-clause-players g c).After-run_crew

pub leave-requires-clause-ended : goal.leave-requires-clause-ended
leave-requires-clause-ended g c = grind (arith, common_steps, seats, goal.at.leave-requires-clause-ended, length)

pub leave-requires-clause-files : goal.leave-requires-clause-files
leave-requires-clause-files g c = grind (arith, common_steps, seats, goal.at.leave-requires-clause-files, length)

pub leave_workers-one-requires-clause-workers : goal.leave_workers-one-requires-clause-workers
leave_workers-one-requires-clause-workers g c =
    let k = (goal.at.leave_workers-one-requires-clause-workers g c).After-run_crew in
    recomputers-there c.args.room.now c.run_crew.new.recomputers.items
    (c.crew_law.ensures.recompute c.args.room.now (word g k) c.in_ok-split.split.1.items c.run_crew.new.recomputers.items (recomputed g k)).seated.of_room

pub leave_workers-other-requires-clause-workers : goal.leave_workers-other-requires-clause-workers
leave_workers-other-requires-clause-workers g c =
    let k = (goal.at.leave_workers-other-requires-clause-workers g c).After-run_crew in
    let size = length-take c.args.plan.now.bisect c.args.runners.now in
    let many = c.in_ok-split.ensures.ok.bisecting.many in
    let enough = c.requires.runners in
    let few : length (take c.args.plan.now.bisect c.args.runners.now) ≡ length c.in_ok-split.split.2.items = omega (arith, size, many, enough) in
    bisectors-there c.args.room.now c.run_crew.new.bisectors.items
    (c.crew_law.ensures.bisect c.args.room.now (word g k) c.in_ok-split.split.2.items (take c.args.plan.now.bisect c.args.runners.now) c.run_crew.new.bisectors.items (take c.args.plan.now.bisect c.run_crew.new.runners) few (bisected g k)).seated.of_room

pub close_scripts-requires-after_bounds : goal.close_scripts-requires-after_bounds
close_scripts-requires-after_bounds g c κs within =
    let k = (goal.at.close_scripts-requires-after_bounds g c).After-run_crew in
    let left : c.leave.new.files.items ≡ map open_of (played g k) = c.leave.ensures.files ∙ ap (λ (l : List (Open g k)). l ++ map open_of (played g k)) c.in_ok-left.ensures.items in
    subst (λ (l : List (Open g k)). AreClosable g.F.Output.Sink (g.F.Files.contents c.open_scripts.new.files) l) (sym left)
    (closable-played g.F.Input.Source g.F.Output.Sink (g.F.Files.contents c.open_scripts.new.files) c.args.room.now 1 (passes g k) (opened g k) (played g k) (pair g k) (plays g k) c.in_ok-opened.ensures.closable)

pub returns-clause-ran : goal.returns-clause-ran
returns-clause-ran g c =
    let k = (goal.at.returns-clause-ran g c).After-run_crew in
    let left : c.leave.new.files.items ≡ map open_of (played g k) = c.leave.ensures.files ∙ ap (λ (l : List (Open g k)). l ++ map open_of (played g k)) c.in_ok-left.ensures.items in
    record {
      passes = c.in_ok-split.split.0.items;
      of_recompute = c.in_ok-split.split.1.items;
      of_bisect = c.in_ok-split.split.2.items;
      between = c.split_for.new.pass;
      split = c.in_ok-split.ensures.ok;
      scripts = record {
        opened = opened g k;
        are_open = subst (λ (l : List (List ℕ)). AllZip (IsOpen g.F.Input.Source g.F.Output.Sink (g.F.Files.contents c.args.files.now)) l (opened g k)) c.scripts.ensures c.in_ok-opened.ensures.open;
        played = played g k;
        plays = plays g k;
        many = pair g k;
        ended = c.leave.ensures.ended ∙ ap (λ (l : List (Result (Unit {0}) Stop)). l ++ map end_of (played g k)) c.in_ok-ended.ensures.items;
        middle = c.open_scripts.new.files;
        asks = subst (λ (l : List (List ℕ)). Asks g.F.Files l c.args.files.now c.open_scripts.new.files (Ok tt)) c.scripts.ensures c.in_ok-opened.ensures.asks;
        closes = subst (λ (l : List (Open g k)). Closes g.F.Files g.F.Input.Source g.F.Output.Sink l c.open_scripts.new.files c.close_scripts.new.files) left c.close_scripts.ensures.closes;
        written = grind (arith, common_steps);
      };
      recomputers = c.run_crew.new.recomputers.items;
      recomputed = recomputed g k;
      bisectors = c.run_crew.new.bisectors.items;
      bisected = bisected g k;
      others = others g k;
      joins = c.crew_law.ensures.joins c.split_for.new.pass c.leave.new.pass c.leave_workers-other.new.pass (map players.pass_of (played g k)) (map workers.pass_of c.run_crew.new.recomputers.items ++ map workers.pass_of c.run_crew.new.bisectors.items)
          c.leave.ensures.joined
          (c.crew_law.ensures.joins c.leave.new.pass c.leave_workers-one.new.pass c.leave_workers-other.new.pass (map workers.pass_of c.run_crew.new.recomputers.items) (map workers.pass_of c.run_crew.new.bisectors.items)
          c.leave_workers-one.ensures.joined c.leave_workers-other.ensures.joined);
    }
