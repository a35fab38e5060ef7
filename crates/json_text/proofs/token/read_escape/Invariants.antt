use Rattle.std.proofs.Common.{[], ◌-◌, ◌<◌, ◌≤◌, length}
use Rattle.json_text.specs.{declared.state.Within.TheVariants.Plain, Machine.{IsPlace, IsEscape}, Reached.ReadsContent}
use Rattle.json_text.proofs.token.read_escape.Given as goal

abbrev pub invariant-loop-place : goal.invariant-loop-place
invariant-loop-place l = record {
  low : l.fn.place < l.place;
  high : l.place ≤ length l.bytes;
  sound : IsPlace l.within;
  escape : IsEscape l.within;
  reads : ReadsContent l.bytes l.fn.place l.place Plain l.within [];
}

abbrev pub decreases-loop-place : goal.decreases-loop-place
decreases-loop-place l = length l.bytes - l.place
