use Rattle.std.{proofs.Common.{◌≡◌, List, All, ap, ◌∙◌}, specs.Prelude.{IsSome, map}, proofs.lemmas.List.Elements.All-map}
use Rattle.history_model.specs.{declared.entries.Declaration.Declaration, declared.entries.Entry.Entry, Commits.{declarations, name_in}, Entries.entries_of}
use Rattle.request_model.specs.declared.replies.Answer.TheVariants as answer
use Rattle.request_model.specs.declared.runs.RunLine.{RunLine}
use Rattle.track_model.specs.{Outcomes.tells, Replies.reply_of}
use Rattle.history_model.specs.Runs.{acceptances, retractions}
use Rattle.sample_store.specs.declared.store.Stored.{Stored}
use Rattle.track_follow.specs.Indexes.{stored, stored_runs}
use Rattle.track_step.{specs.Lines.line_of, proofs.Listing.lines-are}
use Rattle.track_step.proofs.run_lines.runs.Goals as goal

pub lines_of-requires : goal.lines_of-requires
lines_of-requires c =
    let h : List Entry = entries_of c.args.track.now.history in
    let P : List Declaration → List Stored → Type 0 = λ ds runs. All (λ (s : Stored). IsSome (name_in s.run.commit ds)) runs in
    let named : P (declarations h) (stored_runs h) =
    All-map (λ (s : Stored). IsSome (name_in s.run.commit (declarations h))) (stored (retractions h)) (acceptances h) (c.runs_law.ensures h c.history_law.ensures.legal) in
    rw (c.as_slice.ensures, c.commits.ensures, c.stored_runs.ensures) named

pub returns : goal.returns
returns c =
    let h : List Entry = entries_of c.args.track.now.history in
    let lines_are : c.in_ok-lines.lines ≡ map (line_of c.commits.result.now) c.stored_runs.result.now = rw c.as_slice.ensures at c.in_ok-lines.ensures in
    c.told.ensures
    ∙ ap (λ (ls : List RunLine). reply_of h (tells (answer.Runs ls)))
    (lines_are ∙ ap (λ (ds : List Declaration). map (line_of ds) c.stored_runs.result.now) c.commits.ensures
    ∙ ap (map (line_of (declarations h))) c.stored_runs.ensures
    ∙ lines-are h)
