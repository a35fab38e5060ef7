use Rattle.std.{proofs.Common.arith, specs.Vec.Iter.into_iter_items, proofs.lemmas.Grind.common_steps}
use Rattle.script_files.proofs.Names.{rest_closable}
use Rattle.script_files.proofs.close.+close_rest.Goals as goal

pub close_rest-requires-after_bounds : goal.close_rest-requires-after_bounds
close_rest-requires-after_bounds g t c κs within = grind (arith, common_steps, into_iter_items, rest_closable)
