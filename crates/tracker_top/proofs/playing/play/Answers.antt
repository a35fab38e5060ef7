use Rattle.std.proofs.Common.{◌≡◌, ◌∙◌, length, sym, ap, subst, inr, IfNone, IfSome}
use Rattle.command_words.specs.{declared.command.Command.TheVariants.Play, Commands.{AreNoCommand, IsSpelled}, Plans.Plan, Texts.{shown, texts}}
use Rattle.tracker_top.specs.{Plays.{PlaysAsDue, run_status}, declared.status.Status.Status}
use Rattle.shared_run.specs.{Crews.asked_by, Endings.{EndsRun, Objects, Told}}
use Rattle.tracker_top.proofs.{Plans.{are-new, bad-due, is-told, never-bad, plan-due, whole-of}, playing.play.Goals.{in-Ok-run_scripts, in-Err}}
use Rattle.tracker_top.proofs.playing.play.Goals as goal

pub run_scripts-requires-clause-new : goal.run_scripts-requires-clause-new
run_scripts-requires-clause-new g c κs within = rw c.deref_mut.ensures.value (are-new g.N.Runner c.args.runners.now.items c.requires.unasked)

pub returns-clause-command : goal.returns-clause-command
returns-clause-command g c =
    let spelled = subst (λ told. IfSome told (λ (plan : Plan). IsSpelled (texts c.args.words.now) (Play plan))) c.in-Some.is c.in-Ok.ensures.some in
    let ended : c.match-run_scripts.status ≡ run_status c.run_scripts.result = elim c.match-run_scripts.branch [
      | in-Ok-run_scripts w ↦ w.status-is ∙ ap run_status (sym w.in-Ok-run_scripts.is)
      | in-Err w ↦ w.status-is ∙ w.from-status.ensures ∙ ap run_status (sym w.in-Err.is)
    ] in
    let old = c.args.runners.now.items in
    let new = c.run_scripts.new.runners in
    let size : length new ≡ length old = c.run_scripts.ensures.as_many ∙ ap length c.deref_mut.ensures.value in
    let is = whole-of c.args.runners.now.len new old c.args.runners.now.ok.0 size in
    let ends = subst (λ rs. EndsRun (record { files = g.F.Files; input = g.F.Input.Source; out = g.F.Output.Sink; keeper = g.K.Keeper }) c.in-Some.plan (asked_by g.N.Runner rs new)
    (record { files = c.args.files.now; out = c.args.out.now; keeper = c.args.keeper.now })
    (record { files = c.run_scripts.new.files; out = c.run_scripts.new.out; keeper = c.run_scripts.new.keeper }) c.run_scripts.result) c.deref_mut.ensures.value c.run_scripts.ensures.ends in
    λ good. inr (c.in-Some.plan, spelled, record { result = c.run_scripts.result; told = ended; ends = rw is ends })

pub returns-clause-told : goal.returns-clause-told
returns-clause-told g c =
    let spelled = subst (λ told. IfSome told (λ (plan : Plan). IsSpelled (texts c.args.words.now) (Play plan))) c.in-Some.is c.in-Ok.ensures.some in
    λ names are. is-told g.F.Output.Sink names (shown c.scripts.result.now) c.args.err.now c.put_play_status-2.new.err
    c.match-run_scripts.status c.put_play_status-2.result (are c.in-Some.plan spelled ∙ sym c.scripts.ensures)
    c.put_play_status-2.ensures.ok c.put_play_status-2.ensures.err

pub returns-clause-runners : goal.returns-clause-runners
returns-clause-runners g c =
    let old = c.args.runners.now.items in
    let new = c.run_scripts.new.runners in
    let size : length new ≡ length old = c.run_scripts.ensures.as_many ∙ ap length c.deref_mut.ensures.value in
    rw (whole-of c.args.runners.now.len new old c.args.runners.now.ok.0 size) size

pub returns-in_default-told-clause-complete : goal.returns-in_default-told-clause-complete
returns-in_default-told-clause-complete g c =
    let none : AreNoCommand (texts c.args.words.now) =
    subst (λ told. IfNone told (AreNoCommand (texts c.args.words.now))) c.in_default-told.is c.in-Ok.ensures.none in
    let t : Told g.row.F.Denot g.row.F-Input.Denot g.row.F-Output.Denot g.row.K.Denot =
    record { files = g.F.Files; input = g.F.Input.Source; out = g.F.Output.Sink; keeper = g.K.Keeper } in
    let before : Objects g.row.F.Denot g.row.F-Output.Denot g.row.K.Denot =
    record { files = c.args.files.now; out = c.args.out.now; keeper = c.args.keeper.now } in
    bad-due t (texts c.args.words.now) before before none

pub returns-clause-untouched : goal.returns-clause-untouched
returns-clause-untouched g c =
    let ended : c.match-run_scripts.status ≡ run_status c.run_scripts.result = elim c.match-run_scripts.branch [
      | in-Ok-run_scripts w ↦ w.status-is ∙ ap run_status (sym w.in-Ok-run_scripts.is)
      | in-Err w ↦ w.status-is ∙ w.from-status.ensures ∙ ap run_status (sym w.in-Err.is)
    ] in
    λ bad. absurd (never-bad c.run_scripts.result (sym ended ∙ bad))

pub returns-clause-complete : goal.returns-clause-complete
returns-clause-complete g c =
    let spelled = subst (λ told. IfSome told (λ (plan : Plan). IsSpelled (texts c.args.words.now) (Play plan))) c.in-Some.is c.in-Ok.ensures.some in
    let ended : c.match-run_scripts.status ≡ run_status c.run_scripts.result = elim c.match-run_scripts.branch [
      | in-Ok-run_scripts w ↦ w.status-is ∙ ap run_status (sym w.in-Ok-run_scripts.is)
      | in-Err w ↦ w.status-is ∙ w.from-status.ensures ∙ ap run_status (sym w.in-Err.is)
    ] in
    let t : Told g.row.F.Denot g.row.F-Input.Denot g.row.F-Output.Denot g.row.K.Denot =
    record { files = g.F.Files; input = g.F.Input.Source; out = g.F.Output.Sink; keeper = g.K.Keeper } in
    let before : Objects g.row.F.Denot g.row.F-Output.Denot g.row.K.Denot =
    record { files = c.args.files.now; out = c.args.out.now; keeper = c.args.keeper.now } in
    let after : Objects g.row.F.Denot g.row.F-Output.Denot g.row.K.Denot =
    record { files = c.run_scripts.new.files; out = c.run_scripts.new.out; keeper = c.run_scripts.new.keeper } in
    subst (λ (status : Status). PlaysAsDue t (texts c.args.words.now) before after status) (sym ended)
    (plan-due t (texts c.args.words.now) before after c.one_command_law.ensures c.in-Some.plan spelled c.run_scripts.result c.run_scripts.ensures.complete)
