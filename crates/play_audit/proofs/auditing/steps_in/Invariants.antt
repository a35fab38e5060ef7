use Rattle.std.{proofs.Common.{◌≡◌, length, take}, specs.Prelude.sum_by}
use Rattle.track_model.specs.Tracks.{Track}
use Rattle.play_audit.specs.Known.{tracks_of}
use Rattle.play_audit.proofs.auditing.steps_in.Given as goal

abbrev pub invariant-loop-journal : goal.invariant-loop-journal
invariant-loop-journal l = l.steps ≡ sum_by (λ (t : Track). length t.history) (take l.journal-index (tracks_of l.journals))
