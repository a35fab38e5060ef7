use Rattle.std.proofs.{Common.{ap₂, arith}, lemmas.Grind.common_steps}
use Rattle.publication_index.{specs.Homes.homes, proofs.Homes.homes-none}
use Rattle.machine_state.proofs.state.MachineState.new.Goals as goal

pub returns : goal.returns
returns c = grind (arith, common_steps, ap₂, homes, homes-none)
