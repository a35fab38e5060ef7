use Rattle.std.proofs.{Common.arith, lemmas.Grind.common_steps}
use Rattle.fixed_value.proofs.Grammar.{exponent_by_letter, exponent_behind_letter}
use Rattle.fixed_value.proofs.numeral.read_exponent.Goals as goal

pub returns-in-Some-clause-some : goal.returns-in-Some-clause-some
returns-in-Some-clause-some c = grind (arith, common_steps, exponent_by_letter)

pub returns-in-Some-clause-only : goal.returns-in-Some-clause-only
returns-in-Some-clause-only c power is =
    c.read_power.ensures.only power (exponent_behind_letter c.args.text.now c.in-Some.rest.now power c.in-Some.ensures.some is)
