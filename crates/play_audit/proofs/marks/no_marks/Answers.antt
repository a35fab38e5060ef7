use Rattle.std.proofs.{Common.{◌+◌, ℕ, false, replicate, ap, sym, subst, ◌∙◌, arith}, lemmas.Grind.common_steps}
use Rattle.audit_model.specs.Verdicts.{track_of}
use Rattle.play_audit.{specs.Known.tracks_of, specs.Marks.rows_of, proofs.Listed.{read_at, rows_next, track_at, tracks_many}}
use Rattle.play_audit.proofs.Marking.{AreRowsFirst, all_rows, next_row}
use Rattle.play_audit.proofs.marks.no_marks.Goals as goal

pub loop-journal-preserved : goal.loop-journal-preserved
loop-journal-preserved c =
    let js = c.args.journals.now in
    let at = read_at js c.loop-journal.journal-index c.journal-item.result c.loop-journal-test.true c.journal-item.is in
    let made = c.in_ok-unmarked.ensures ∙ ap (λ (k : ℕ). replicate k false) c.count_of.ensures in
    subst (AreRowsFirst (tracks_of js) (c.loop-journal.journal-index + 1)) (sym (ap rows_of c.in_ok-push.ensures.items ∙ rows_next c.loop-journal.marks.items c.in_ok-unmarked.field-0))
    (next_row (tracks_of js) c.loop-journal.journal-index (track_of c.journal-item.result) (rows_of c.loop-journal.marks.items) c.in_ok-unmarked.field-0.items
    c.loop-journal.invariant (track_at js c.loop-journal.journal-index c.journal-item.result at) made)

pub returns-clause-rows : goal.returns-clause-rows
returns-clause-rows c = grind (arith, common_steps, all_rows, tracks_of, rows_of, tracks_many)
