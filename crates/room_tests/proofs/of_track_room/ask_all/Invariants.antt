use Rattle.track_room.specs.Rooms.{IsPassOf}
use Rattle.room_tests.proofs.of_track_room.ask_all.Given as goal

abbrev pub invariant-loop-k : goal.invariant-loop-k
invariant-loop-k g l = IsPassOf l.room l.pass
