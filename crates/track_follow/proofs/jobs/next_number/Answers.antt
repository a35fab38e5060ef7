use Rattle.std.proofs.Common.{◌≡◌, ◌≤◌, List, length, ap, ◌∙◌, arith}
use Rattle.bisect_core.specs.Bisections.{Bisection}
use Rattle.metric_table.specs.Limits.{most}
use Rattle.metric_table.specs.declared.limits.Limit.TheVariants as limit
use Rattle.history_model.specs.{declared.entries.Entry.Entry, Entries.entries_of, Jobs.jobs}
use Rattle.track_follow.proofs.Bisecting.{few-jobs}
use Rattle.track_follow.proofs.jobs.next_number.Goals as goal

pub overflow_add-result : goal.overflow_add-result
overflow_add-result c =
    let h : List Entry = entries_of c.args.track.now.history in
    let few : length h ≤ most limit.Steps = c.history_law.ensures.limits limit.Steps in
    let count : c.len.result ≡ length (jobs h) = c.len.ensures.told ∙ ap (λ (js : List Bisection). length js) c.jobs.ensures in
    let each = few-jobs h in
    record { fits = omega (arith, few, count, each) }
