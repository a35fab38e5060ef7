use Rattle.std.proofs.Common.{refl, ap, Some}
use Rattle.series_gen.specs.Script.{script as script_of}
use Rattle.tracker_top.{specs.Answers.new_state, proofs.Trials.runs_none}
use Rattle.tracker_top.proofs.top.run_trial.Goals as goal

pub returns-in_default : goal.returns-in_default
returns-in_default g c = runs_none g.O.Sink c.args.out.now (script_of c.args.number) c.args.steps.now

pub returns : goal.returns
returns g c =
    c.try_script.ensures (script_of c.args.number) (ap (λ s. Some s) c.in-Ok.ensures) refl
    (λ items ending is. (c.script_law.ensures.whole c.args.number items ending is).1)
    (λ text last ending out. c.accepted_law.ensures.output c.args.number new_state last text ending refl out)
