use Rattle.std.proofs.Common.{length, ◌↔◌}
use Rattle.penalty_path.{specs.Paths.IsRange, proofs.Runs.Runs}
use Rattle.penalty_path.proofs.checked.check_path.Given as goal

abbrev pub invariant-loop-stretch : goal.invariant-loop-stretch
invariant-loop-stretch l = record {
  same : Runs l.points l.from l.high l.rest ↔ Runs l.points l.low l.high l.given;
  range : IsRange l.from l.high;
}

abbrev pub decreases-loop-stretch : goal.decreases-loop-stretch
decreases-loop-stretch l = length l.rest
