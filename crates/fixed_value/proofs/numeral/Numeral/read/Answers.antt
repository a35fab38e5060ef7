use Rattle.std.{proofs.Common.{rules, Some, length, take, ap, ◌∙◌, FitsSigned, arith}, proofs.lemmas.Grind.common_steps, specs.Str.Parse.digits_value_after}
use Rattle.std.{specs.Int.{w128, cast_signed, cast_unsigned}, proofs.lemmas.Int.to_z-of_z, proofs.lemmas.List.length-take-le}
use Rattle.fixed_value.specs.{declared.numeral.Numeral.Numeral, Numerals.IsNumeralText}
use Rattle.fixed_value.proofs.{Grammar.{if_none, Front, some_whole, too_many, numeral_split, numeral_made, numeral_only}, Powers.ten_grows, Reading.fits_behind}
use Rattle.fixed_value.proofs.numeral.Numeral.read.Goals as goal

pub returns-then-whole-eq0-clause-none : goal.returns-then-whole-eq0-clause-none
returns-then-whole-eq0-clause-none c numeral =
    let front : Front c.args.text.now c.split_sign-negative.result.1.now c.split_sign-negative.result.0 c.leading_digits-whole.result =
    record { splits = c.split_sign-negative.ensures.only; within = c.leading_digits-whole.ensures.within; digits = c.leading_digits-whole.ensures.digits; stops = c.leading_digits-whole.ensures.stops } in
    some_whole c.args.text.now c.split_sign-negative.result.1.now c.split_sign-negative.result.0 c.leading_digits-whole.result numeral front c.if-whole-eq0.true

pub returns-then-whole-eq0-clause-only : goal.returns-then-whole-eq0-clause-only
returns-then-whole-eq0-clause-only c numeral is = absurd (returns-then-whole-eq0-clause-none c numeral is)

-- there is no tail, so there is no numeral
no_tail : (c : goal.After-from_residual) (numeral : Numeral) → ¬ IsNumeralText c.args.text.now numeral
no_tail c numeral is =
    let front : Front c.args.text.now c.split_sign-negative.result.1.now c.split_sign-negative.result.0 c.leading_digits-whole.result =
    record { splits = c.split_sign-negative.ensures.only; within = c.leading_digits-whole.ensures.within; digits = c.leading_digits-whole.ensures.digits; stops = c.leading_digits-whole.ensures.stops } in
    let split = numeral_split c.args.text.now c.split_sign-negative.result.1.now c.split_sign-negative.result.0 c.leading_digits-whole.result numeral front is in
    c.in_err-fraction.ensures.only is.fraction is.power split.2

pub returns-in_err-fraction-clause-none : goal.returns-in_err-fraction-clause-none
returns-in_err-fraction-clause-none c = if_none c.from_residual.result (no_tail c)

pub returns-in_err-fraction-clause-only : goal.returns-in_err-fraction-clause-only
returns-in_err-fraction-clause-only c numeral is = absurd (no_tail c numeral is)

pub returns-then-whole-fraction-gt38-clause-none : goal.returns-then-whole-fraction-gt38-clause-none
returns-then-whole-fraction-gt38-clause-none c numeral =
    let front : Front c.args.text.now c.split_sign-negative.result.1.now c.split_sign-negative.result.0 c.leading_digits-whole.result =
    record { splits = c.split_sign-negative.ensures.only; within = c.leading_digits-whole.ensures.within; digits = c.leading_digits-whole.ensures.digits; stops = c.leading_digits-whole.ensures.stops } in
    too_many c.args.text.now c.split_sign-negative.result.1.now c.in_ok-fraction.fraction.now c.in_ok-fraction.power c.split_sign-negative.result.0 c.leading_digits-whole.result numeral front
    c.in_ok-fraction.ensures.only c.if-whole-fraction-gt38.true

pub returns-then-whole-fraction-gt38-clause-only : goal.returns-then-whole-fraction-gt38-clause-only
returns-then-whole-fraction-gt38-clause-only c numeral is = absurd (returns-then-whole-fraction-gt38-clause-none c numeral is)

pub number_after-requires-clause-fits : goal.number_after-requires-clause-fits
number_after-requires-clause-fits c = grind (arith, common_steps, length, take, length-take-le, ten_grows)

pub number_after-digits-requires-clause-fits : goal.number_after-digits-requires-clause-fits
number_after-digits-requires-clause-fits c = grind (arith, common_steps, length, take, length-take-le, fits_behind)

pub returns-clause-some : goal.returns-clause-some
returns-clause-some c = grind (arith, common_steps, w128, to_z-of_z, numeral_made, cast_signed, cast_unsigned)

pub returns-clause-only : goal.returns-clause-only
returns-clause-only c numeral is =
    let fits : FitsSigned w128 c.less_places.result = search rules in
    let fits' : FitsSigned w128 c.in_ok-fraction.power = search rules in
    let exponent = to_z-of_z w128 c.less_places.result fits ∙ (simp to_z-of_z at c.less_places.ensures) in
    let value = c.number_after-digits.ensures ∙ ap (λ n. digits_value_after 10 n c.in_ok-fraction.fraction.now) c.number_after.ensures in
    let front : Front c.args.text.now c.split_sign-negative.result.1.now c.split_sign-negative.result.0 c.leading_digits-whole.result =
    record { splits = c.split_sign-negative.ensures.only; within = c.leading_digits-whole.ensures.within; digits = c.leading_digits-whole.ensures.digits; stops = c.leading_digits-whole.ensures.stops } in
    ap Some
    (numeral_only c.args.text.now c.split_sign-negative.result.1.now c.in_ok-fraction.fraction.now c.in_ok-fraction.power c.leading_digits-whole.result
    (record { negative = c.split_sign-negative.result.0; digits = c.number_after-digits.result; exponent = cast_signed w128 (cast_unsigned w128 c.less_places.result) }) numeral front
    c.in_ok-fraction.ensures.only value exponent is)
