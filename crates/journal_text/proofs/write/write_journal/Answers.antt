use Rattle.std.{proofs.Common.{rules, ◌≡◌, ◌+◌, ◌-◌, ℕ, List, Some, Err, ◌++◌, length, take, drop, sym, ap, subst, ◌∙◌, arith}, specs.Prelude.slice_get}
use Rattle.std.proofs.lemmas.Result.{err_from_is_err_and}
use Rattle.track_outside.specs.declared.out_error.OutError.TheVariants.{Failed}
use Rattle.journal_text.{specs.Journals.{entry_line, head_line, lines_from}, specs.Writing.{Pends, Writes}, proofs.Stepwise.{journal-split, journal-more}}
use Rattle.journal_text.proofs.{Written.{pends-part, pends-more, pends-on, writes-behind}, write.write_journal.Given.Over}
use Rattle.journal_text.proofs.write.write_journal.Goals as goal
use Rattle.journal_text.proofs.write.write_journal.Goals.{In_ok-put_step}

pub returns-in_err-put_step : goal.returns-in_err-put_step
returns-in_err-put_step g c =
    let p = err_from_is_err_and c.from_residual-in_err-put_step.result c.from_residual-in_err-put_step.ensures.1 in
    let t = c.args.track.now in
    rw (p.1, p.2) (pends-part g.O.Sink c.args.out.now c.loop-step.out (head_line t.machine (length t.history) ++ lines_from 1 (take c.loop-step.step t.history)) c.loop-step.text.items
    (lines_from (1 + c.loop-step.step) (drop c.loop-step.step t.history)) (head_line t.machine (length t.history) ++ lines_from 1 t.history)
    c.loop-step.invariant.0 (journal-split t.machine t.history c.loop-step.step))

module _ (g : Over) (c : In_ok-put_step g) where
  -- the lines before the step, and then its line
  abbrev through : List ℕ
  through =
      (head_line c.args.track.now.machine (length c.args.track.now.history) ++ lines_from 1 (take c.loop-step.step c.args.track.now.history))
      ++ entry_line (c.loop-step.step + 1) c.in_ok-put_step.ensures.0

  pends : Pends g.O.Sink c.args.out.now c.loop-step.out through c.put_step.new.text.items
  pends =
      pends-more g.O.Sink c.args.out.now c.loop-step.out (head_line c.args.track.now.machine (length c.args.track.now.history) ++ lines_from 1 (take c.loop-step.step c.args.track.now.history))
      c.loop-step.text.items (entry_line (c.loop-step.step + 1) c.in_ok-put_step.ensures.0) c.put_step.new.text.items c.loop-step.invariant.0 c.in_ok-put_step.ensures.2

  grown : head_line c.args.track.now.machine (length c.args.track.now.history) ++ lines_from 1 (take (c.loop-step.step + 1) c.args.track.now.history) ≡ through
  grown =
      let minus : c.loop-step.step + 1 - 1 ≡ c.loop-step.step = omega arith in
      journal-more c.args.track.now.machine c.args.track.now.history c.loop-step.step c.in_ok-put_step.ensures.0
      (subst (λ n. slice_get c.args.track.now.history n ≡ Some c.in_ok-put_step.ensures.0) minus c.in_ok-put_step.ensures.1)

pub loop-step-preserved : goal.loop-step-preserved
loop-step-preserved g c =
    let k = (goal.at.loop-step-preserved g c).In_ok-put_step in
    let next = pends-on g.O.Sink c.args.out.now c.loop-step.out c.hand_out_many.new.out (through g k) c.put_step.new.text.items c.hand_out_many.new.text.items (pends g k) c.in_ok-hand_out_many.ensures.ok in
    (subst (λ text. Pends g.O.Sink c.args.out.now c.hand_out_many.new.out text c.hand_out_many.new.text.items) (sym (grown g k)) next, search rules)

pub returns-in_err-hand_out_many : goal.returns-in_err-hand_out_many
returns-in_err-hand_out_many g c =
    let p = err_from_is_err_and c.from_residual-in_err-hand_out_many.result c.from_residual-in_err-hand_out_many.ensures.1 in
    let k = (goal.at.returns-in_err-hand_out_many g c).In_ok-put_step in
    let t = c.args.track.now in
    let later = lines_from (1 + (c.loop-step.step + 1)) (drop (c.loop-step.step + 1) t.history) in
    rw (p.1, p.2) (writes-behind g.O.Sink c.args.out.now c.loop-step.out c.hand_out_many.new.out (through g k) c.put_step.new.text.items later
    (head_line t.machine (length t.history) ++ lines_from 1 t.history) c.in_err-hand_out_many.field-0.0 (pends g k)
    (journal-split t.machine t.history (c.loop-step.step + 1) ∙ ap (λ text. text ++ later) (grown g k))
    c.in_err-hand_out_many.ensures.err)

pub returns-in_err-put_all : goal.returns-in_err-put_all
returns-in_err-put_all g c =
    let p = err_from_is_err_and c.from_residual-in_err-put_all.result c.from_residual-in_err-put_all.ensures.1 in
    let t = c.args.track.now in
    let front = head_line t.machine (length t.history) ++ lines_from 1 (take c.loop-step.step t.history) in
    rw (p.1, p.2) (writes-behind g.O.Sink c.args.out.now c.loop-step.out c.put_all.new.sink front c.loop-step.text.items (lines_from (1 + c.loop-step.step) (drop c.loop-step.step t.history))
    (head_line t.machine (length t.history) ++ lines_from 1 t.history) Failed c.loop-step.invariant.0 (journal-split t.machine t.history c.loop-step.step)
    (subst (λ text. Writes g.O.Sink c.loop-step.out c.put_all.new.sink text (Err Failed)) c.deref.ensures.value c.in_err-put_all.ensures.err))
