use Rattle.std.{proofs.Common.{not, length, arith}, specs.Prelude.{filter, map}, proofs.lemmas.Grind.common_steps}
use Rattle.machine_state.proofs.Asked.{none-is}
use Rattle.history_model.proofs.Lists.{filter-same}
use Rattle.machine_state.proofs.state.MachineState.asked.Goals as goal

pub returns : goal.returns
returns c = grind (arith, common_steps, length, filter-same, not, map, none-is, filter)
