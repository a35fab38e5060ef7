use Rattle.std.proofs.Common.{◌≡◌, ◌+◌, ◌≤◌, length, drop}
use Rattle.series_index.specs.Log.{all_placed}
use Rattle.series_index.proofs.log.place_first.Given as goal

-- the values so far are placed
abbrev pub invariant-loop-i : goal.invariant-loop-i
invariant-loop-i l = record {
  same : all_placed (drop l.i l.coming) l.placed ≡ all_placed l.coming l.fn.placed;
  fewer : length l.placed ≤ length l.fn.placed + l.i;
}
