use Rattle.std.{proofs.Common.{◌≡◌, ◌<◌, ℕ, Some}, specs.Prelude.slice_get}
use Rattle.journal_reader.specs.Journals.{Journal, IsOther}
use Rattle.play_audit.proofs.hearing.journal_of.Given as goal

abbrev pub invariant-loop-i : goal.invariant-loop-i
invariant-loop-i l = (k : ℕ) (j : Journal) → k < l.i → slice_get l.journals k ≡ Some j → IsOther l.machine j
