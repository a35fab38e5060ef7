use Rattle.std.proofs.{Common.arith, lemmas.Grind.common_steps}
use Rattle.checkpoint_redo.proofs.redoing.redo_from.Goals as goal

pub loop-i-init : goal.loop-i-init
loop-i-init g c = grind (arith, common_steps)

pub advance-requires : goal.advance-requires
advance-requires g c = grind (arith, common_steps)

pub returns-in_err-advance-clause-err : goal.returns-in_err-advance-clause-err
returns-in_err-advance-clause-err g c = grind (arith, common_steps)

pub loop-i-preserved : goal.loop-i-preserved
loop-i-preserved g c = grind (arith, common_steps)

pub returns-clause-ok : goal.returns-clause-ok
returns-clause-ok g c = grind (arith, common_steps)

pub returns-clause-steps : goal.returns-clause-steps
returns-clause-steps g c = grind (arith, common_steps)
