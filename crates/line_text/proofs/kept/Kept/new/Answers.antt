use Rattle.std.{specs.Prelude.slice_index, proofs.Common.arith, proofs.lemmas.Grind.common_steps}
use Rattle.line_text.proofs.Plain.{spells-itself}
use Rattle.line_text.proofs.kept.Kept.new.Goals as goal

pub invariant_of-result : goal.invariant_of-result
invariant_of-result c none = grind (arith, common_steps, spells-itself, slice_index)
