use Rattle.std.proofs.Common.{arith}
use Rattle.history_model.specs.declared.entries.Entry.TheVariants as entry
use Rattle.track_replay.proofs.Allowances.{steps-refused, turn-allowed}
use Rattle.track_replay.proofs.events.turn_allowance.Goals as goal

pub returns-then-len-most : goal.returns-then-len-most
returns-then-len-most c = steps-refused c.args.track.now.history (entry.Job c.args.event.now) (omega arith)

pub returns : goal.returns
returns c =
    turn-allowed c.args.track.now.history c.history_law.ensures.limits c.jobs_law.ensures.turn c.args.job c.args.place c.args.event.now c.requires (omega arith) (c.asks.ensures.0 c.if-not-asks.false)
