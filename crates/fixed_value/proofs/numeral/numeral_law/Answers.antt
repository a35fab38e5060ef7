use Rattle.fixed_value.proofs.OneNumeral.{one_numeral}
use Rattle.fixed_value.proofs.numeral.numeral_law.Goals as goal

pub returns : goal.returns
returns c = one_numeral
