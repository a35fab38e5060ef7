use Rattle.std.proofs.{Common.{refl, arith}, lemmas.Grind.common_steps}
use Rattle.fixed_value.proofs.Reading.{at_digit, next_digit, next_fits, reads_more}
use Rattle.fixed_value.proofs.digits.number_after.Goals as goal

pub overflow_mul-number : goal.overflow_mul-number
overflow_mul-number c =
    let on = at_digit c.loop-digit.number c.loop-digit.digit-index c.args.digits.now _ c.loop-digit-test.true c.loop-digit.invariant in
    omega (arith, next_fits _ _ _ _ on)

pub overflow_add-number : goal.overflow_add-number
overflow_add-number c = grind (arith, common_steps, at_digit, next_fits, next_digit)

pub loop-digit-init : goal.loop-digit-init
loop-digit-init c = record { same = refl; digits_come = c.requires.digits; fits = c.requires.fits }

pub loop-digit-preserved : goal.loop-digit-preserved
loop-digit-preserved c = grind (arith, common_steps, at_digit, reads_more)
