use Rattle.std.proofs.{Common.{length, arith}, lemmas.Grind.common_steps}
use Rattle.track_outside.proofs.Repeats.{repeat-empty}
use Rattle.track_outside.proofs.repeat_source.turns_of.Goals as goal

pub returns-then-is_empty-clause-same : goal.returns-then-is_empty-clause-same
returns-then-is_empty-clause-same c = grind (arith, common_steps, length, repeat-empty)
