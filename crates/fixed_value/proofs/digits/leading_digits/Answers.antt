use Rattle.std.proofs.{Common.{arith, length}, lemmas.Int.Digits.digits_more, lemmas.Grind.common_steps}
use Rattle.fixed_value.proofs.digits.leading_digits.Goals as goal

pub loop-i-preserved : goal.loop-i-preserved
loop-i-preserved c = grind (arith, common_steps, length, digits_more)
