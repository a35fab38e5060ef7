use Rattle.std.proofs.Common.{◌≡◌, List, ap, ◌∙◌}
use Rattle.history_model.specs.Entries.{entries_of}
use Rattle.sample_store.specs.Judged as judge
use Rattle.sample_store.specs.declared.store.Stored.{Stored}
use Rattle.track_follow.specs.Indexes.{stored_runs}
use Rattle.track_step.{specs.Told.told_of, proofs.ToldAgain.told-by-judge}
use Rattle.track_step.proofs.submissions.told_again.Goals as goal

pub returns : goal.returns
returns c =
    let runs_are : c.stored_runs.result.now ≡ stored_runs (entries_of c.args.track.now.history) = c.stored_runs.ensures in
    c.told_of.ensures ∙ ap told_of (c.judge.ensures ∙ ap (λ (runs : List Stored). judge.judged runs c.args.new.now) runs_are)
    ∙ told-by-judge (entries_of c.args.track.now.history) c.args.new.now
