use Rattle.std.proofs.{Common.{◌≡◌, false, List, sym, ◌∙◌, arith}, lemmas.Grind.common_steps}
use Rattle.history_model.specs.{declared.entries.Entry.Entry, Entries.entries_of, Publications.last_publication}
use Rattle.touch_index.specs.Marks.{Entries, IsFirstFree}
use Rattle.touch_model.specs.Stale.{is_behind}
use Rattle.track_state.{specs.Work.series_of, proofs.Opening.{first-is, removed-claims, removed-covers}}
use Rattle.track_state.proofs.taking.first_open.Goals as goal

pub returns-then-is_behind-clause-some : goal.returns-then-is_behind-clause-some
returns-then-is_behind-clause-some c =
    let h : List Entry = entries_of c.args.track.now.history in
    let marks : Entries = c.loop-key.touched in
    let first : IsFirstFree marks c.in-Some.key c.in-Some.step = grind (arith, common_steps) in
    first-is h marks c.loop-key.invariant.covers c.in-Some.key c.in-Some.step first (sym c.is_behind.ensures ∙ c.if-is_behind.true)

pub loop-key-preserved : goal.loop-key-preserved
loop-key-preserved c =
    let h : List Entry = entries_of c.args.track.now.history in
    let marks : Entries = c.loop-key.touched in
    let first : IsFirstFree marks c.in-Some.key c.in-Some.step = grind (arith, common_steps) in
    let fresh : is_behind c.in-Some.step (last_publication (series_of c.in-Some.key) h) ≡ false = sym c.is_behind.ensures ∙ c.if-is_behind.false in
    record {
      covers = removed-covers h marks c.loop-key.invariant.covers c.in-Some.key c.in-Some.step first fresh c.remove.new.self c.remove.ensures.marks;
      claims = grind (arith, common_steps, removed-claims, h, marks, first, fresh, c.loop-key.invariant.covers, c.in-Some.key, c.in-Some.step);
    }
