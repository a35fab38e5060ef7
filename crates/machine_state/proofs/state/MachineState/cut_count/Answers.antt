use Rattle.std.proofs.Common.{arith}
use Rattle.metric_table.specs.declared.limits.Limit.TheVariants as limit
use Rattle.machine_state.proofs.state.MachineState.cut_count.Goals as goal

pub returns-clause-few : goal.returns-clause-few
returns-clause-few c = omega (arith, c.self.invariant.cuts_are, c.self.invariant.limits limit.Cuts)
