use Rattle.std.{proofs.Common.{subst, ◌∙◌}, specs.Int.w128, proofs.lemmas.Int.to_z-of_z}
use Rattle.track_outside.specs.Calls.{Took, FailedIn}
use Rattle.path_command.{specs.Endings.CameTo, proofs.Ends.{untouched, low_fits, high_fits, path_between}, proofs.command.path_points.Given.Over}
use Rattle.path_command.proofs.command.path_points.Goals.{In-Ok-path}
use Rattle.path_command.proofs.command.path_points.Goals as goal

-- what the path came to
came : (g : Over) (c : In-Ok-path g) → CameTo (g.I.Source.left c.args.input.now) c.args.low c.args.high c.in-Ok-path.stretches
came g c = record {
  points = c.in-Ok.points;
  points_are = c.in-Ok.ensures.points;
  path = path_between c.in-Ok.points c.in-Ok-path.stretches _ c.args.low _ c.args.high
      (to_z-of_z w128 c.args.low (low_fits c.args.low c.args.high c.requires))
      (to_z-of_z w128 c.args.high (high_fits c.args.low c.args.high c.requires)) c.in-Ok-path.ensures.path;
}

pub returns-in-Err-clause-path : goal.returns-in-Err-clause-path
returns-in-Err-clause-path g c = untouched g.O.Sink c.args.out.now

pub returns-in_default-clause-path : goal.returns-in_default-clause-path
returns-in_default-clause-path g c = untouched g.O.Sink c.args.out.now

pub returns-in_default-text_of-clause-path : goal.returns-in_default-text_of-clause-path
returns-in_default-text_of-clause-path g c = untouched g.O.Sink c.args.out.now

pub returns-in-Ok-put_all-clause-path : goal.returns-in-Ok-put_all-clause-path
returns-in-Ok-put_all-clause-path g c = (
  c.in-Ok-path.stretches,
  came g (goal.at.returns-in-Ok-put_all-clause-path g c).In-Ok-path,
  subst (Took g.O.Sink c.args.out.now c.put_all.new.sink) (c.deref.ensures.value ∙ c.in-Ok-text_of.ensures) c.in-Ok-put_all.ensures.ok,
)

pub returns-clause-path : goal.returns-clause-path
returns-clause-path g c = (
  c.in-Ok-path.stretches,
  came g (goal.at.returns-clause-path g c).In-Ok-path,
  subst (FailedIn g.O.Sink c.args.out.now c.put_all.new.sink) (c.deref.ensures.value ∙ c.in-Ok-text_of.ensures) c.in-Err-put_all.ensures.err,
)
