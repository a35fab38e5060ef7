use Rattle.std.{proofs.Common.{◌≡◌, false, take}, specs.Prelude.bytes_eq, specs.List.AllByRecursion}
use Rattle.track_room.specs.Sights.{Home}
use Rattle.track_room.proofs.place.place_of.Given as goal

abbrev pub invariant-loop-i : goal.invariant-loop-i
invariant-loop-i l = AllByRecursion (λ (h : Home). bytes_eq h.machine l.machine ≡ false) (take l.i l.machines)
