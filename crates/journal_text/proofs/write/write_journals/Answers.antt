use Rattle.std.{proofs.Common.{rules, ◌≡◌, ◌+◌, ◌<◌, length, take, drop, refl, Some}, proofs.lemmas.Result.err_from_is_err_and, specs.Prelude.slice_get}
use Rattle.std.proofs.lemmas.Option.{slice_get_read}
use Rattle.journal_text.{specs.Journals.{journal_text, journals_text}, proofs.Stepwise.journals-split, proofs.Written.writes-next}
use Rattle.journal_text.proofs.write.write_journals.Goals as goal

pub returns-in_err-write_journal : goal.returns-in_err-write_journal
returns-in_err-write_journal g c =
    let p = err_from_is_err_and c.from_residual.result c.from_residual.ensures.1 in
    let there : slice_get c.args.tracks.now c.loop-track.track-index ≡ Some c.track-item.result =
    let within : c.loop-track.track-index < length c.args.tracks.now = search rules in
    slice_get_read c.args.tracks.now (length c.args.tracks.now) c.loop-track.track-index c.track-item.result refl within c.track-item.is in
    rw (p.1, p.2) (writes-next g.O.Sink c.args.out.now c.loop-track.out c.write_journal.new.out (journals_text (take c.loop-track.track-index c.args.tracks.now)) (journal_text c.track-item.result)
    (journals_text (drop (c.loop-track.track-index + 1) c.args.tracks.now)) (journals_text c.args.tracks.now) c.in_err-write_journal.field-0.0 c.loop-track.invariant
    (journals-split c.args.tracks.now c.loop-track.track-index c.track-item.result there) c.in_err-write_journal.ensures)
