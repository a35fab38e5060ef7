use Rattle.std.proofs.Common.{◌≡◌, ◌++◌, map, take, drop}
use Rattle.track_room.specs.{Rooms.HaveGivenMarks, Sights.{splitting, split_off}}
use Rattle.track_room.proofs.passes.split_each.Given as goal

abbrev pub invariant-loop-i : goal.invariant-loop-i
invariant-loop-i l =
    (l.others.items ≡ map split_off (take l.i l.initial.passes))
    × (l.passes ≡ map splitting (take l.i l.initial.passes) ++ drop l.i l.initial.passes)
    × HaveGivenMarks (take l.i l.initial.passes)
