use Rattle.std.{proofs.Common.{length, arith}, specs.Int.w128, proofs.lemmas.Bool.false≢true, proofs.lemmas.Int.to_z-of_z, proofs.lemmas.Grind.common_steps}
use Rattle.fixed_value.proofs.{Grammar.{short_value, signed_short, same_digits}, Powers.ten_grows}
use Rattle.fixed_value.proofs.numeral.read_power.Goals as goal

pub number_after-requires-clause-fits : goal.number_after-requires-clause-fits
number_after-requires-clause-fits c = grind (arith, common_steps, length, ten_grows)

pub power_with_sign-requires : goal.power_with_sign-requires
power_with_sign-requires c = grind (arith, common_steps, length, short_value)

pub returns-then-are_digits-clause-within : goal.returns-then-are_digits-clause-within
returns-then-are_digits-clause-within c = grind (arith, common_steps, length, short_value, w128, to_z-of_z, signed_short)

pub returns-else-are_digits-clause-only : goal.returns-else-are_digits-clause-only
returns-else-are_digits-clause-only c power is =
    absurd (false≢true (c.if-are_digits.ensures.1 (same_digits c.args.text.now c.split_sign-negative.result.1.now c.split_sign-negative.result.0 power c.split_sign-negative.ensures.only is)))
