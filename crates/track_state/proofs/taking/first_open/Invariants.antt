use Rattle.std.proofs.Common.{length}
use Rattle.history_model.specs.Entries.{entries_of}
use Rattle.track_state.specs.Covering.{Covers, MakeSame}
use Rattle.track_state.proofs.taking.first_open.Given as goal

-- a mark less
abbrev pub decreases-loop-key : goal.decreases-loop-key
decreases-loop-key l = length l.touched

abbrev pub invariant-loop-key : goal.invariant-loop-key
invariant-loop-key l = record {
  covers : Covers (entries_of l.track.history) (length (entries_of l.track.history)) l.touched;
  claims : MakeSame (entries_of l.track.history) l.fn.touched l.touched;
}
