use Rattle.std.proofs.{Common.arith, lemmas.Grind.common_steps}
use Rattle.bisect_core.proofs.Sounds.{sound_begun}
use Rattle.bisect_core.proofs.job.Job.begin.Goals as goal

pub invariant_of-result : goal.invariant_of-result
invariant_of-result c = grind (arith, common_steps, sound_begun)
