use Rattle.std.proofs.Common.{length, ap, ◌∙◌, arith}
use Rattle.metric_table.specs.declared.limits.Limit.TheVariants as limit
use Rattle.history_model.specs.{Entries.entries_of, Runs.known_series}
use Rattle.track_model.specs.Tracks.{Track}
use Rattle.machine_state.proofs.state.MachineState.known_count.Goals as goal

pub returns-clause-count : goal.returns-clause-count
returns-clause-count c = c.self.invariant.known_are ∙ ap (λ (t : Track). length (known_series (entries_of t.history))) c.self.view_is

pub returns-clause-few : goal.returns-clause-few
returns-clause-few c = omega (arith, c.self.invariant.known_are, c.self.invariant.limits limit.Series)
