use Rattle.std.{proofs.Common.{ℕ, cond, List, sym, ap, subst, ◌∙◌, Option, Some, None}, specs.Prelude.option_copied, proofs.lemmas.Bool.{lt-ltb, le-ltb}}
use Rattle.segment_cost.specs.declared.done.Done.{Done}
use Rattle.history_model.specs.{declared.entries.Entry.Entry, declared.publication.Publication.Publication, Entries.entries_of, Publications.last_publication}
use Rattle.publication_index.specs.Kept.{series_of}
use Rattle.machine_state.specs.State.{IsKept}
use Rattle.track_series.proofs.Beginning.{later-kept}
use Rattle.track_series.proofs.publishing.later.Goals as goal

pub returns-then-kept-done : goal.returns-then-kept-done
returns-then-kept-done c =
    let h : List Entry = entries_of c.args.track.now.history in
    let last : Option Publication = last_publication (series_of c.args.done.now) h in
    let v : ℕ = c.in-Some.kept.now.version in
    let kept : IsKept h last (Some c.in-Some.kept.now) = subst (λ (o : Option Done). IsKept h last o) (ap option_copied c.in-Some.is) c.published.ensures in
    sym (later-kept h c.args.done.now.version last c.in-Some.kept.now kept ∙ ap (λ b. cond b (Some v) None) (lt-ltb _ _ c.if-kept-done.true))

pub returns : goal.returns
returns c =
    let h : List Entry = entries_of c.args.track.now.history in
    let last : Option Publication = last_publication (series_of c.args.done.now) h in
    let v : ℕ = c.in-Some.kept.now.version in
    let kept : IsKept h last (Some c.in-Some.kept.now) = subst (λ (o : Option Done). IsKept h last o) (ap option_copied c.in-Some.is) c.published.ensures in
    sym (later-kept h c.args.done.now.version last c.in-Some.kept.now kept ∙ ap (λ b. cond b (Some v) None) (le-ltb _ _ c.if-kept-done.false))
