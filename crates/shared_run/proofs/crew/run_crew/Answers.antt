use denote.Param.Send.{sendable}
use Rattle.shared_run.proofs.Sent.{player_send}
use Rattle.shared_run.proofs.crew.run_crew.Goals as goal

pub work_beside-requires-send-J : goal.work_beside-requires-send-J
work_beside-requires-send-J g c κs within = search (player_send, sendable) depth 20
