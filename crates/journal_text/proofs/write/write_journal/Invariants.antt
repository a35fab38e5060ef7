use Rattle.std.proofs.Common.{◌-◌, ◌≤◌, ◌++◌, length, take}
use Rattle.journal_text.specs.{Journals.{head_line, lines_from}, Writing.Pends}
use Rattle.journal_text.proofs.write.write_journal.Given as goal

abbrev pub invariant-loop-step : goal.invariant-loop-step
invariant-loop-step g l =
    Pends g.O.Sink l.initial.out l.out (head_line l.track.machine (length l.track.history) ++ lines_from 1 (take l.step l.track.history)) l.text.items × (l.step ≤ length l.track.history)

abbrev pub decreases-loop-step : goal.decreases-loop-step
decreases-loop-step g l = length l.track.history - l.step
