use Rattle.std.proofs.Common.{◌≡◌, ◌-◌, length}
use Rattle.history_model.specs.Entries.{entries_of}
use Rattle.journal_walk.specs.Ahead.{KeepsAhead}
use Rattle.journal_walk.proofs.ahead.meet_needs.Given as goal

abbrev pub invariant-loop-ahead : goal.invariant-loop-ahead
invariant-loop-ahead l = record {
  keeps : KeepsAhead (entries_of l.history) (entries_of l.track.history) l.ahead;
  same : l.track ≡ l.fn.track;
}

abbrev pub decreases-loop-ahead : goal.decreases-loop-ahead
decreases-loop-ahead l = length l.ahead.needs.items - l.ahead.met
