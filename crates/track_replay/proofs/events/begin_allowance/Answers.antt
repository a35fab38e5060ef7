use Rattle.std.proofs.Common.{arith}
use Rattle.history_model.specs.declared.entries.Entry.TheVariants as entry
use Rattle.history_model.specs.{declared.events.JobEvent.TheVariants.Begin, Entries.entries_of}
use Rattle.track_replay.proofs.Allowances.{steps-refused, jobs-refused, begin-allowed}
use Rattle.track_replay.proofs.events.begin_allowance.Goals as goal

pub returns-then-len-most : goal.returns-then-len-most
returns-then-len-most c = steps-refused c.args.track.now.history (entry.Job (Begin c.args.lo c.args.hi)) (omega arith)

pub returns-then-branch-most : goal.returns-then-branch-most
returns-then-branch-most c =
    jobs-refused (entries_of c.args.track.now.history) c.args.lo c.args.hi (omega (arith, c.in_ok-open_after.ensures, c.if-branch-most.true, c.most-2.ensures))

pub returns : goal.returns
returns c =
    begin-allowed c.args.track.now.history c.history_law.ensures.limits c.jobs_law.ensures.limits c.args.lo c.args.hi (omega arith) (c.may_begin.ensures.0 c.if-not-may_begin.false)
    (omega (arith, c.in_ok-open_after.ensures, c.if-branch-most.false, c.most-2.ensures))
