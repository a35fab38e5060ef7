use Rattle.fixed_value.proofs.Back.{fixed_read_back}
use Rattle.fixed_value.proofs.fixed.fixed_law.Goals as goal

pub returns : goal.returns
returns c = fixed_read_back
