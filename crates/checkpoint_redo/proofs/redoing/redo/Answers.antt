use Rattle.std.proofs.{Common.{length, arith}, lemmas.List.length-map, lemmas.Grind.common_steps}
use Rattle.checkpoint_redo.proofs.Fronts.{common-within, front-first}
use Rattle.checkpoint_redo.proofs.redoing.redo.Goals as goal

pub redo_from-requires : goal.redo_from-requires
redo_from-requires g c = grind (arith, common_steps, common-within, length, length-map, front-first)
