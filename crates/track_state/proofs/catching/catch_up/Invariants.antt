use Rattle.std.proofs.Common.{◌≡◌}
use Rattle.history_model.specs.Entries.{entries_of}
use Rattle.track_state.specs.Covering.{Covers, MakeSame}
use Rattle.track_state.proofs.catching.catch_up.Given as goal

-- the entries so far were looked at
abbrev pub invariant-loop-place : goal.invariant-loop-place
invariant-loop-place l = record {
  covers : Covers (entries_of l.track.history) l.seen l.touched;
  claims : MakeSame (entries_of l.track.history) l.fn.touched l.touched;
  place : l.seen ≡ l.place;
}
