use Rattle.std.proofs.{Common.{take, arith}, lemmas.Grind.common_steps}
use Rattle.journal_walk.{specs.Needs.{needs_from, needs_of}, proofs.Plans.needs-more}
use Rattle.journal_walk.proofs.needs.needs_in.Goals as goal

pub loop-placed-preserved : goal.loop-placed-preserved
loop-placed-preserved c = grind (arith, common_steps, needs_of, needs_from, take, needs-more)
