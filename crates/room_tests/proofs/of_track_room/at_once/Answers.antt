use denote.Param.Send.{IsSend, sendable}
use denote.Ref.{NamedLft}
use Rattle.std.proofs.Crossing.{crosses}
use Rattle.track_room.proofs.Sent.{room_pass_send, room_sync}
use Rattle.room_tests.specs.contracts.of_track_room.Script as Script
use Rattle.room_tests.proofs.of_track_room.at_once.Goals as goal

script_send : (a : NamedLft) → IsSend (Script.the_row a)
script_send a = search (room_pass_send, room_sync, sendable, crosses) depth 60 fits 20000

pub run_at_once-requires-send-J : goal.run_at_once-requires-send-J
run_at_once-requires-send-J g c κs within = search (script_send, sendable) depth 20
