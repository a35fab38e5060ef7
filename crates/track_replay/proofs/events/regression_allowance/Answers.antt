use Rattle.std.proofs.Common.{arith}
use Rattle.history_model.specs.declared.entries.Entry.TheVariants as entry
use Rattle.track_replay.proofs.Allowances.{steps-refused, regression-allowed}
use Rattle.track_replay.proofs.events.regression_allowance.Goals as goal

pub returns-then-len-most : goal.returns-then-len-most
returns-then-len-most c = steps-refused c.args.track.now.history (entry.Regression c.args.event.now) (omega arith)

pub returns : goal.returns
returns c = regression-allowed c.args.track.now.history c.history_law.ensures.limits c.regressions_law.ensures.limits c.args.event.now (omega arith) (c.may_become.ensures.0 c.if-not-may_become.false)
