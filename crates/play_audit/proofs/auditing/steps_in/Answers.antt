use Rattle.std.{proofs.Common.{◌≡◌, ◌+◌, ℕ, arith, length, take}, specs.Prelude.sum_by}
use Rattle.track_model.specs.Tracks.{Track}
use Rattle.audit_model.specs.Verdicts.{track_of}
use Rattle.play_audit.{specs.Known.tracks_of, proofs.Listed.{read_at, sum_most, sum_next, track_at}, proofs.Opened.steps_fit}
use Rattle.play_audit.proofs.auditing.steps_in.Goals as goal
use Rattle.play_audit.proofs.auditing.steps_in.Goals.{After-count_of}

grown : (c : After-count_of) → c.loop-journal.steps + c.count_of.result ≡ sum_by (λ (t : Track). length t.history) (take (c.loop-journal.journal-index + 1) (tracks_of c.args.journals.now))
grown c =
    let js = c.args.journals.now in
    let n : ℕ = c.loop-journal.journal-index in
    let at = track_at js n c.journal-item.result (read_at js n c.journal-item.result c.loop-journal-test.true c.journal-item.is) in
    let next = sum_next (λ (t : Track). length t.history) (tracks_of js) n (track_of c.journal-item.result) at in
    omega (arith, next, c.loop-journal.invariant, c.count_of.ensures)

pub overflow_add-steps : goal.overflow_add-steps
overflow_add-steps c =
    let g = grown c in
    let most = sum_most (λ (t : Track). length t.history) (tracks_of c.args.journals.now) (c.loop-journal.journal-index + 1) in
    omega (arith, g, most, steps_fit (tracks_of c.args.journals.now), c.requires)

pub loop-journal-preserved : goal.loop-journal-preserved
loop-journal-preserved c = grown c
