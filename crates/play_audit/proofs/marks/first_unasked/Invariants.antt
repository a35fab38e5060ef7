use Rattle.play_audit.{specs.Known.tracks_of, specs.Marks.rows_of, proofs.Opened.AreShut}
use Rattle.play_audit.proofs.marks.first_unasked.Given as goal

abbrev pub invariant-loop-i : goal.invariant-loop-i
invariant-loop-i l = AreShut (tracks_of l.journals) (rows_of l.marks) l.i l.before
