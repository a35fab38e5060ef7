use Rattle.std.proofs.{Common.{length, Err, sym, ap, subst, ◌∙◌, arith}, lemmas.Grind.common_steps}
use Rattle.play_audit.{specs.Known.{AreSound, lines_in, tracks_of}, proofs.Sound.{lines_bytes, sound_of}}
use Rattle.play_audit.proofs.auditing.audit_by.Goals as goal

pub returns-in_err-asked-clause-cut_off : goal.returns-in_err-asked-clause-cut_off
returns-in_err-asked-clause-cut_off c = λ script offset is.
    let made = rw is at c.from_residual.ensures.1 in
    c.read_scripts.ensures.cut script offset (c.in_err-asked.was ∙ sym (ap Err made))

pub hear_all-requires-clause-sound : goal.hear_all-requires-clause-sound
hear_all-requires-clause-sound c = subst AreSound (sym c.deref.ensures.value) (sound_of (length c.args.heard.now) c.args.journal.now c.in-Ok.journals.items c.in-Ok.ensures.read)

pub hear_all-requires-clause-fits : goal.hear_all-requires-clause-fits
hear_all-requires-clause-fits c = grind (arith, common_steps, lines_in, tracks_of, length, lines_bytes)
