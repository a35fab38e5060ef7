use Rattle.std.{proofs.Common.◌≡◌, specs.Prelude.map}
use Rattle.track_room.specs.Sights.{tracks_of}
use Rattle.track_state.specs.Work.{unclaimed}
use Rattle.track_room.proofs.states.unclaimed.Given as goal

abbrev pub invariant-loop-machine : goal.invariant-loop-machine
invariant-loop-machine l =
    (goal.iterator-loop-machine).can_next l.machine-iterator
    × (goal.iterator-loop-machine).is_finite l.machine-iterator
    × (l.states.items ≡ map unclaimed l.yielded)
    × (tracks_of l.states.items ≡ l.yielded)
