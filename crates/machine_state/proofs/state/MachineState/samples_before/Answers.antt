use Rattle.std.proofs.{Common.{◌≡◌, ◌≤◌, arith}, lemmas.Grind.common_steps}
use Rattle.metric_table.specs.declared.limits.Limit.TheVariants as limit
use Rattle.history_model.specs.{Entries.entries_of, Runs.{acceptances, sample_count}}
use Rattle.machine_state.{specs.Indexes.stored_runs, proofs.Ready.samples-stored}
use Rattle.machine_state.proofs.state.MachineState.samples_before.Goals as goal

pub returns-clause-count : goal.returns-clause-count
returns-clause-count c = grind (arith, common_steps, stored_runs, samples-stored)

pub returns-clause-few : goal.returns-clause-few
returns-clause-few c =
    let is : c.sample_count.result ≡ sample_count (acceptances (entries_of c.self.inside.history.items)) = grind (arith, common_steps) in
    let few : sample_count (acceptances (entries_of c.self.inside.history.items)) ≤ 524_288 = c.self.invariant.limits limit.Samples in
    omega (arith, is, few)
