use Rattle.std.proofs.{Common.{◌≡◌, ◌<◌, List, length, arith}, lemmas.List.length-map}
use Rattle.metric_table.specs.Limits.{most}
use Rattle.metric_table.specs.declared.limits.Limit.TheVariants as limit
use Rattle.history_model.specs.{declared.entries.Entry.Entry, declared.entries.Placed.Placed, Entries.entries_of}
use Rattle.track_follow.proofs.jobs.say.Goals as goal

pub put_job-requires-clause-allowed : goal.put_job-requires-clause-allowed
put_job-requires-clause-allowed c =
    let h : List Entry = entries_of c.args.track.now.history in
    let size : length h ≡ length c.args.track.now.history = length-map c.args.track.now.history (λ (p : Placed). p.entry) in
    let room : length h < most limit.Steps = omega (arith, c.len.ensures, size, c.if-len-most.false, c.most.ensures) in
    c.say_law.ensures.tested h c.args.number c.args.place c.args.status c.history_law.ensures.limits c.requires room
