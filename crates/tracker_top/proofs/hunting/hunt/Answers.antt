use Rattle.std.proofs.Common.{◌≡◌, ◌∙◌, ℕ, List, length, ap, sym, subst, inr, arith, IfNone, IfSome}
use Rattle.command_words.specs.{declared.command.Command.TheVariants.Hunt, declared.command.HuntPlan.HuntPlan, Commands.{AreNoCommand, IsSpelled}, Texts.texts}
use Rattle.hunt_command.specs.Endings.{EndsHunt as PutsHunt}
use Rattle.tracker_top.specs.{Hunts.HuntsAsDue, declared.status.Status.Status}
use Rattle.tracker_top.proofs.{Hunts.{as-many, bad-hunt-due, hunt-due, never-bad-hunt, wanting-hunt-due}, Plans.whole-of}
use Rattle.tracker_top.proofs.hunting.hunt.Goals as goal

pub returns-in_default-clause-complete : goal.returns-in_default-clause-complete
returns-in_default-clause-complete g c =
    wanting-hunt-due g.F.Input.Source g.F.Output.Sink (texts c.args.words.now) c.args.input.now c.args.input.now c.args.out.now c.args.out.now

pub returns-in_default-told-clause-complete : goal.returns-in_default-told-clause-complete
returns-in_default-told-clause-complete g c =
    let none : AreNoCommand (texts c.args.words.now) =
    subst (λ told. IfNone told (AreNoCommand (texts c.args.words.now))) c.in_default-told.is c.in-Ok.ensures.none in
    bad-hunt-due g.F.Input.Source g.F.Output.Sink (texts c.args.words.now) c.args.input.now c.args.input.now c.args.out.now c.args.out.now none

pub hunt_commits-requires-clause-width : goal.hunt_commits-requires-clause-width
hunt_commits-requires-clause-width g c κs within =
    let spelled = subst (λ told. IfSome told (λ (plan : HuntPlan). IsSpelled (texts c.args.words.now) (Hunt plan))) c.in-Some.is c.in-Ok.ensures.some in
    (spelled.said.1.0, spelled.said.1.1)

pub hunt_commits-requires-clause-enough : goal.hunt_commits-requires-clause-enough
hunt_commits-requires-clause-enough g c κs within =
    let spelled = subst (λ told. IfSome told (λ (plan : HuntPlan). IsSpelled (texts c.args.words.now) (Hunt plan))) c.in-Some.is c.in-Ok.ensures.some in
    let upper = spelled.said.1.1 in
    let eight = c.requires.eight in
    let size = ap length c.deref_mut.ensures.value in
    omega (arith, upper, eight, size)

pub returns-clause-bad_words : goal.returns-clause-bad_words
returns-clause-bad_words g c = λ bad. absurd (never-bad-hunt c.hunt_commits.result (sym c.from-status.ensures ∙ bad))

pub returns-clause-untouched : goal.returns-clause-untouched
returns-clause-untouched g c = λ bad. absurd (never-bad-hunt c.hunt_commits.result (sym c.from-status.ensures ∙ bad))

pub returns-clause-runners : goal.returns-clause-runners
returns-clause-runners g c =
    let old = c.args.runners.now.items in
    let new = c.hunt_commits.new.runners in
    let size : length new ≡ length old =
    as-many g.F.Output.Sink g.N.Runner (g.F.Input.Source.left c.args.input.now) c.as_str-test.result.now c.in-Some.plan.width
    c.args.out.now c.hunt_commits.new.out c.deref_mut.result.now new c.hunt_commits.result c.hunt_commits.ensures.hunt ∙ ap length c.deref_mut.ensures.value in
    rw (whole-of c.args.runners.now.len new old c.args.runners.now.ok.0 size) size

pub returns-clause-command : goal.returns-clause-command
returns-clause-command g c =
    let spelled = subst (λ told. IfSome told (λ (plan : HuntPlan). IsSpelled (texts c.args.words.now) (Hunt plan))) c.in-Some.is c.in-Ok.ensures.some in
    let old = c.args.runners.now.items in
    let new = c.hunt_commits.new.runners in
    let left = g.F.Input.Source.left c.args.input.now in
    let size : length new ≡ length old =
    as-many g.F.Output.Sink g.N.Runner left c.as_str-test.result.now c.in-Some.plan.width
    c.args.out.now c.hunt_commits.new.out c.deref_mut.result.now new c.hunt_commits.result c.hunt_commits.ensures.hunt ∙ ap length c.deref_mut.ensures.value in
    let is = whole-of c.args.runners.now.len new old c.args.runners.now.ok.0 size in
    let hunted : PutsHunt g.F.Output.Sink g.N.Runner left c.in-Some.plan.test c.in-Some.plan.width c.args.out.now c.hunt_commits.new.out old new c.hunt_commits.result =
    subst (λ (test : List ℕ). PutsHunt g.F.Output.Sink g.N.Runner left test c.in-Some.plan.width c.args.out.now c.hunt_commits.new.out old new c.hunt_commits.result) c.as_str-test.ensures
    (subst (λ rs. PutsHunt g.F.Output.Sink g.N.Runner left c.as_str-test.result.now c.in-Some.plan.width c.args.out.now c.hunt_commits.new.out rs new c.hunt_commits.result) c.deref_mut.ensures.value
    c.hunt_commits.ensures.hunt) in
    λ good. inr (c.in-Some.plan, spelled, record { why = c.hunt_commits.result; told = c.from-status.ensures; input = c.hunt_commits.ensures.input; output = rw is hunted })

pub returns-clause-complete : goal.returns-clause-complete
returns-clause-complete g c =
    let spelled = subst (λ told. IfSome told (λ (plan : HuntPlan). IsSpelled (texts c.args.words.now) (Hunt plan))) c.in-Some.is c.in-Ok.ensures.some in
    let left = g.F.Input.Source.left c.args.input.now in
    let hunted : PutsHunt g.F.Output.Sink g.N.Runner left c.in-Some.plan.test c.in-Some.plan.width c.args.out.now c.hunt_commits.new.out c.deref_mut.result.now c.hunt_commits.new.runners c.hunt_commits.result =
    subst (λ (test : List ℕ). PutsHunt g.F.Output.Sink g.N.Runner left test c.in-Some.plan.width c.args.out.now c.hunt_commits.new.out c.deref_mut.result.now c.hunt_commits.new.runners c.hunt_commits.result)
    c.as_str-test.ensures c.hunt_commits.ensures.hunt in
    subst (λ (status : Status). HuntsAsDue g.F.Input.Source g.F.Output.Sink (texts c.args.words.now) c.args.input.now c.hunt_commits.new.input c.args.out.now c.hunt_commits.new.out status) (sym c.from-status.ensures)
    (hunt-due g.F.Input.Source g.F.Output.Sink g.N.Runner (texts c.args.words.now) c.args.input.now c.hunt_commits.new.input c.args.out.now c.hunt_commits.new.out c.deref_mut.result.now c.hunt_commits.new.runners
    c.one_stop_law.ensures.stops c.one_stop_law.ensures.list c.one_stop_law.ensures.names c.in-Some.plan spelled c.hunt_commits.result c.hunt_commits.ensures.input.cause hunted)
