use Rattle.fixed_value.proofs.Powers.{one_scaled}
use Rattle.fixed_value.proofs.scaled.scaled_law.Goals as goal

pub returns : goal.returns
returns c = one_scaled
