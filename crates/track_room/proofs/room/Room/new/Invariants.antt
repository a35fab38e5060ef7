use Rattle.std.specs.List.{AllZip}
use Rattle.track_room.specs.{Rooms.IsPassOf, Sights.{IsFirstOf, tracks_of}}
use Rattle.track_room.proofs.room.Room.new.Given as goal

abbrev pub invariant-loop-state : goal.invariant-loop-state
invariant-loop-state l =
    (goal.iterator-loop-state).can_next l.state-iterator
    × (goal.iterator-loop-state).is_finite l.state-iterator
    × IsPassOf l.machines.items l.passes.items
    × AllZip IsFirstOf (tracks_of l.yielded) l.passes.items
