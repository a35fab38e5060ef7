use Rattle.std.proofs.Common.{◌≡◌, ℕ, List, map, ap, ◌∙◌}
use Rattle.segment_cost.specs.declared.done.Done.{Done}
use Rattle.history_model.specs.{declared.entries.Declaration.Declaration, declared.entries.Entry.Entry, Entries.entries_of, Runs.Series}
use Rattle.request_model.specs.declared.replies.Answer.TheVariants as answer
use Rattle.track_model.specs.{Outcomes.tells, Publishing.{named, TellsChanges}, Replies.reply_of}
use Rattle.track_reports.{specs.Lines.named_by, proofs.Declared.all-have-names, proofs.Telling.{changed, refused, told-last}}
use Rattle.track_reports.proofs.told.changes.Goals as goal

pub returns-in-Err : goal.returns-in-Err
returns-in-Err c = refused c.args.track.now c.args.test.now c.args.metric.now TellsChanges c.in-Err.why c.told.result c.in-Err.ensures.none c.told.ensures

pub returns : goal.returns
returns c =
    let h : List Entry = entries_of c.args.track.now.history in
    let s : Series = record { test = c.args.test.now; metric = c.args.metric.now } in
    let done : Done = c.in-Ok.done.now in
    let last = c.in-Ok.ensures.found in
    let metric_is : c.in_ok-metric.metric ≡ s.metric = c.in_ok-metric.ensures in
    let items_are : c.in_ok-items.items ≡ map (named h) c.in_ok-found.found =
    c.in_ok-items.ensures ∙ ap (map (named_by c.commits.result.now)) c.as_slice.ensures ∙ ap (λ (ds : List Declaration). map (named_by ds) c.in_ok-found.found) c.commits.ensures in
    told-last c.args.track.now c.args.test.now c.args.metric.now TellsChanges done (answer.Changes done.version s.metric c.in_ok-items.items) c.told-2.result last
    (changed h s done c.in_ok-found.found c.in_ok-items.items last.made last.series c.in_ok-found.ensures items_are)
    (c.told-2.ensures ∙ ap (λ (m : List ℕ). reply_of h (tells (answer.Changes done.version m c.in_ok-items.items))) metric_is)

pub all_named-requires : goal.all_named-requires
all_named-requires c =
    rw (c.as_slice.ensures, c.commits.ensures)
    (all-have-names c.runs_law.ensures (entries_of c.args.track.now.history) c.in-Ok.done.now c.in_ok-found.found c.history_law.ensures.legal c.in-Ok.ensures.found.made c.in_ok-found.ensures)
