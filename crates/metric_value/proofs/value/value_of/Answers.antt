use Rattle.std.{proofs.Common.{◌≡◌, ap, arith, FitsSigned, unsigned_abs}, specs.Int.w64, proofs.lemmas.Int.{ints, to_z-of_z}}
use Rattle.metric_value.specs.Values.{IsValueOf}
use Rattle.metric_value.proofs.value.value_of.Goals as goal

pub returns-in_default-clause-no_numeral : goal.returns-in_default-clause-no_numeral
returns-in_default-clause-no_numeral c _ has = c.in_default.ensures.none has.0 has.1

pub returns-in_default-clause-none : goal.returns-in_default-clause-none
returns-in_default-clause-none c value is = absurd (c.in_default.ensures.none is.numeral is.spells)

pub returns-in-Err-clause-none : goal.returns-in-Err-clause-none
returns-in-Err-clause-none c value is =
    let out = c.in-Err.ensures.err in
    let large : IsValueOf c.args.metric.now c.args.text.now out.0 =
    record { numeral = c.in-Some.numeral; spells = c.in-Some.ensures.some; scales = rw (← c.decimals.ensures.row) out.1 } in
    let same : value ≡ out.0 = c.value_law.ensures.one c.args.metric.now c.args.text.now value out.0 is large in
    omega (arith, out.2, ap unsigned_abs same)

pub returns-in-Ok-clause-only : goal.returns-in-Ok-clause-only
returns-in-Ok-clause-only c =
    let fits : FitsSigned w64 c.in-Ok.value = omega (arith, ints, c.in-Ok.ensures.within) in
    let value : IsValueOf c.args.metric.now c.args.text.now c.in-Ok.value =
    record { numeral = c.in-Some.numeral; spells = c.in-Some.ensures.some; scales = rw (← c.decimals.ensures.row) c.in-Ok.ensures.ok } in
    simp to_z-of_z (λ other is. c.value_law.ensures.one c.args.metric.now c.args.text.now other c.in-Ok.value is value)
