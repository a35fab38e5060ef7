-- A script that is played may go to another thread, since its pass may, and the room may be shared.
use denote.RattleType.{RattleType}
use denote.Ref.{NamedLft}
use denote.Param.Send.{IsSend, IsSync, sendable}
use Rattle.std.proofs.Crossing.{crosses}
use Rattle.worker_crew.proofs.PlayCrewSent.{room_pass_send, room_sync}
use Rattle.worker_crew.specs.Player as Player

pub player_send : (a : NamedLft) (R I O G : RattleType) → IsSync R → IsSend I → IsSend O → IsSync G → IsSend (Player.the_row a R I O G)
player_send a R I O G r i o y = search (room_pass_send, room_sync, sendable, crosses) depth 60 fits 20000
