use Rattle.std.proofs.Common.{◌≡◌, List, length, sym, subst, ◌∙◌, Option, Some, None}
use Rattle.history_model.specs.{declared.entries.Entry.Entry, Entries.entries_of, Runs.Series}
use Rattle.touch_index.specs.{Marks.mark_of, declared.mark.Mark.Mark}
use Rattle.track_state.{specs.Covering.{Fits, IsMark}, specs.Work.series_of, proofs.Covering.{marked-stale, unmarked-fresh}}
use Rattle.track_state.proofs.taking.is_stale.Goals as goal

pub returns-in-Some : goal.returns-in-Some
returns-in-Some c =
    let h : List Entry = entries_of c.args.track.now.history in
    let s : Series = series_of c.args.key.now in
    let there : mark_of c.args.key.now c.args.touched.now ≡ Some c.in-Some.mark = sym c.get.ensures ∙ c.in-Some.is in
    let fits : IsMark h (length h) s c.in-Some.mark = subst (λ (o : Option Mark). Fits h (length h) s o) there (c.requires.each s) in
    c.is_behind.ensures ∙ sym (marked-stale h s c.in-Some.mark fits)

pub returns-in-None : goal.returns-in-None
returns-in-None c =
    let h : List Entry = entries_of c.args.track.now.history in
    let s : Series = series_of c.args.key.now in
    let there : mark_of c.args.key.now c.args.touched.now ≡ None = sym c.get.ensures ∙ c.in-None.is in
    sym (unmarked-fresh h s (subst (λ (o : Option Mark). Fits h (length h) s o) there (c.requires.each s)))
