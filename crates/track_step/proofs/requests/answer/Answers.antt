use Rattle.std.proofs.Common.{refl}
use Rattle.track_step.proofs.Answered.{not-segment, answers, counts, left}
use Rattle.track_step.proofs.requests.answer.Goals as goal

pub step-requires-clause-plain : goal.step-requires-clause-plain
step-requires-clause-plain g c = not-segment c.args.request.now c.in_default.not-Segment

pub returns-clause-answered : goal.returns-clause-answered
returns-clause-answered g c = answers c.step.result c.args.track.now c.args.author c.args.request.now c.step.new.track (not-segment c.args.request.now c.in_default.not-Segment) c.step.ensures.step

pub returns-clause-steps : goal.returns-clause-steps
returns-clause-steps g c = counts c.step.result c.args.request.now c.args.steps.now _ (not-segment c.args.request.now c.in_default.not-Segment) refl

pub returns-clause-left : goal.returns-clause-left
returns-clause-left g c = left c.step.result c.args.track.now c.step.new.track c.step.ensures.same
