use Rattle.std.proofs.Common.{◌≡◌, ◌≤◌, List, ap, ◌∙◌, arith}
use Rattle.metric_table.specs.Limits.{most}
use Rattle.metric_table.specs.declared.limits.Limit.TheVariants as limit
use Rattle.history_model.specs.{declared.entries.Entry.Entry, Entries.entries_of, Jobs.{jobs, open_count}}
use Rattle.track_replay.proofs.events.open_after.Goals as goal
use Rattle.track_replay.proofs.events.open_after.Goals.{then-len-gt2, else-len-gt2}

pub overflow_add-result : goal.overflow_add-result
overflow_add-result c =
    let h : List Entry = entries_of c.args.track.now.history in
    let few : open_count (jobs h) ≤ most limit.Jobs = c.history_law.ensures.limits limit.Jobs in
    let open_is : c.open.result ≡ open_count (jobs h) = c.open.ensures ∙ ap open_count c.jobs.ensures in
    let one : c.if-len-gt2.more ≤ 1 = elim c.if-len-gt2.branch [ then-len-gt2 w ↦ omega (arith, w.more-is) | else-len-gt2 w ↦ omega (arith, w.more-is) ] in
    record { fits = omega (arith, few, open_is, one) }
