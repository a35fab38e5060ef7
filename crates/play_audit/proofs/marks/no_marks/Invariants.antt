use Rattle.play_audit.{specs.Known.tracks_of, specs.Marks.rows_of, proofs.Marking.AreRowsFirst}
use Rattle.play_audit.proofs.marks.no_marks.Given as goal

abbrev pub invariant-loop-journal : goal.invariant-loop-journal
invariant-loop-journal l = AreRowsFirst (tracks_of l.journals) l.journal-index (rows_of l.marks.items)
