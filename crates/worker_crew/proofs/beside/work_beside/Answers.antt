use Rattle.std.proofs.{Common.arith, lemmas.Grind.common_steps}
use denote.Param.Send.{sendable}
use Rattle.worker_crew.proofs.{Paired.can-work, Sent.worker_send}
use Rattle.worker_crew.proofs.beside.work_beside.Goals as goal

pub run_with_workers-requires-send-H : goal.run_with_workers-requires-send-H
run_with_workers-requires-send-H g c κs within = search (worker_send, sendable) depth 20

pub run_with_workers-requires-send-W : goal.run_with_workers-requires-send-W
run_with_workers-requires-send-W g c κs within = search (worker_send, sendable) depth 20

pub run_with_workers-requires-clause-workers : goal.run_with_workers-requires-clause-workers
run_with_workers-requires-clause-workers g c κs within = grind (arith, common_steps, can-work)
