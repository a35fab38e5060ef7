use Rattle.std.proofs.{Common.{◌-◌, arith}, lemmas.Grind.common_steps}
use Rattle.fixed_value.{specs.Fixed.low_digits, proofs.Places.{low_digits_step, appended_none, appended_more}}
use Rattle.fixed_value.proofs.fixed.put_low_digits.Goals as goal

pub loop-place-init : goal.loop-place-init
loop-place-init c = appended_none c.args.out.now.items (low_digits c.args.d c.args.n)

pub loop-place-preserved : goal.loop-place-preserved
loop-place-preserved c = grind (arith, common_steps, low_digits_step, low_digits, appended_more)
