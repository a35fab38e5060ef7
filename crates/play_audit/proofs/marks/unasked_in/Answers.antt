use Rattle.std.proofs.{Common.{inl, inr, arith}, lemmas.Option.slice_get_within, lemmas.Grind.common_steps}
use Rattle.play_audit.proofs.{Listed.read_at, Marking.shut_more}
use Rattle.play_audit.proofs.marks.unasked_in.Goals as goal
use Rattle.play_audit.proofs.marks.unasked_in.Goals.{else-is_of_script-via-then-is_of_script+else-not-marks-i, else-is_of_script-via-else-is_of_script}

pub returns-then-not-marks-i-clause-some : goal.returns-then-not-marks-i-clause-some
returns-then-not-marks-i-clause-some c =
    let script = c.is_of_script.ensures.yes c.if-is_of_script.true in
    record {
      open_ = grind (arith, common_steps, script, script.0, read_at, script.1, c.loop-i.i, c.loop-i-test.true, c.index-history-i.is);
      first = c.loop-i.invariant;
    }

pub loop-i-preserved : goal.loop-i-preserved
loop-i-preserved c =
    shut_more c.args.history.now c.args.marks.now c.loop-i.i c.index-history-i.result
    (read_at c.args.history.now c.loop-i.i c.index-history-i.result c.loop-i-test.true c.index-history-i.is) c.loop-i.invariant
    (elim c.else-is_of_script.branch [
      | else-is_of_script-via-then-is_of_script+else-not-marks-i w ↦ inr w.if-not-marks-i.false
      | else-is_of_script-via-else-is_of_script w ↦ inl (c.is_of_script.ensures.no w.if-is_of_script.false)
    ])

pub returns-clause-none : goal.returns-clause-none
returns-clause-none c = λ place o.
    c.loop-i.invariant place (omega (arith, c.loop-i-test.false, slice_get_within c.args.history.now place o.entry o.there)) o
