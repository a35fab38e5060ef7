use Rattle.std.proofs.{Common.{length, arith}, lemmas.Grind.common_steps}
use Rattle.play_audit.proofs.Walking.{not_stuck}
use Rattle.play_audit.proofs.place.go_to.Goals as goal

pub loop-walk-init : goal.loop-walk-init
loop-walk-init c = c.requires.by

pub go_on-requires : goal.go_on-requires
go_on-requires c = c.loop-walk.invariant.along

pub unreachable-requires : goal.unreachable-requires
unreachable-requires c = grind (arith, common_steps, length, not_stuck)
