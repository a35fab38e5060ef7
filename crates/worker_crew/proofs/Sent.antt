-- A worker may go to another thread, since its pass may, and the room may be shared.
use denote.RattleType.{RattleType}
use denote.Ref.{NamedLft}
use denote.Param.Send.{IsSend, IsSync, sendable}
use Rattle.std.proofs.Crossing.{crosses}
use Rattle.play_crew.proofs.Sent.{room_pass_send, room_sync}
use Rattle.worker_crew.specs.contracts.worker.RoomWorker as RoomWorker

pub worker_send : (a : NamedLft) (G : RattleType) → IsSync G → IsSend (RoomWorker.the_row a G)
worker_send a G y = search (room_pass_send, room_sync, sendable, crosses) depth 60 fits 20000
