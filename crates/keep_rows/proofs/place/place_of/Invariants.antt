use Rattle.std.proofs.Common.{◌≤◌, length, ◌-◌}
use Rattle.keep_rows.specs.Places.{NoneBefore}
use Rattle.keep_rows.proofs.place.place_of.Given as goal

abbrev pub invariant-loop-i : goal.invariant-loop-i
invariant-loop-i l = (l.i ≤ length l.machines) × NoneBefore l.machine l.machines l.i

abbrev pub decreases-loop-i : goal.decreases-loop-i
decreases-loop-i l = length l.machines - l.i
