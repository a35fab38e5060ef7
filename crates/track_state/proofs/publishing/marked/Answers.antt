use Rattle.std.proofs.{Common.{◌≡◌, ◌≤◌, List, length, sym, subst, ◌∙◌, Option, Some, None, arith}, lemmas.Grind.common_steps}
use Rattle.segment_cost.specs.declared.done.Done.{Done}
use Rattle.history_model.specs.{declared.entries.Entry.Entry, Entries.entries_of, Publications.last_publication, Runs.Series}
use Rattle.touch_index.specs.{Marks.mark_of, declared.key.SeriesKey.SeriesKey, declared.mark.Mark.Mark}
use Rattle.track_step.specs.Made.{publication_from}
use Rattle.track_state.{specs.Covering.Fits, specs.Work.series_of, proofs.Handed.{put-claims, put-covers, was-published}}
use Rattle.track_state.proofs.{Touching.same-itself, publishing.marked.Goals.In-Some-published}
use Rattle.track_state.proofs.publishing.marked.Goals as goal

pub unreachable-requires : goal.unreachable-requires
unreachable-requires c =
    let h : List Entry = entries_of c.args.track.now.history in
    let k : SeriesKey = c.args.key.now in
    let s : Series = series_of k in
    let none : mark_of k c.args.touched.now ≡ None = sym c.get.ensures ∙ c.in_default.is in
    let unpublished : last_publication s h ≡ None = grind (arith, common_steps) in
    was-published h s c.requires.known (subst (λ (o : Option Mark). Fits h (length h) s o) none (c.requires.covers.each s)) unpublished

-- the publication whose version marks the series
module _ (c : In-Some-published) where
  abbrev h : List Entry
  h = entries_of c.args.track.now.history

  abbrev done : Done
  done = c.in-Some-published.done.now

  last : last_publication (series_of c.args.key.now) h ≡ Some (publication_from done)
  last = grind (arith, common_steps)

  past : done.version ≤ length h
  past = (c.publication_law.ensures.last_stands h (series_of c.args.key.now) (publication_from done) c.history_law.ensures.legal last).1.past

pub returns-clause-covers : goal.returns-clause-covers
returns-clause-covers c =
    let at = (goal.at.returns-clause-covers c).In-Some-published in
    put-covers (h at) c.args.touched.now c.put.new.self c.requires.covers c.args.key.now c.requires.known (sym c.get.ensures ∙ c.in_default.is) (publication_from (done at)) (last at) (past at) c.in_ok-put.ensures.ok

pub returns-clause-claims : goal.returns-clause-claims
returns-clause-claims c =
    let at = (goal.at.returns-clause-claims c).In-Some-published in
    put-claims (h at) c.args.touched.now c.put.new.self c.requires.covers c.args.key.now c.requires.known (sym c.get.ensures ∙ c.in_default.is) (publication_from (done at)) (last at) (past at) c.in_ok-put.ensures.ok

pub returns-clause-mark : goal.returns-clause-mark
returns-clause-mark c = grind (arith, common_steps, same-itself)
