use Rattle.std.{proofs.Common.{rules, sym, FitsSigned}, specs.Int.w128, proofs.lemmas.Int.to_z-of_z}
use Rattle.fixed_value.proofs.Grammar.{not_none, same_some, tail_without_point, plain_tail, tail_at_run, pointed_tail}
use Rattle.fixed_value.proofs.numeral.read_tail.Goals as goal

pub returns-in_err-read_exponent-clause-only : goal.returns-in_err-read_exponent-clause-only
returns-in_err-read_exponent-clause-only c fraction power is =
    absurd (not_none power (c.in_err-read_exponent.ensures.only power (tail_without_point c.args.text.now fraction power c.in_default.ensures.none is).1))

pub returns-in_default-clause-some : goal.returns-in_default-clause-some
returns-in_default-clause-some c =
    let fits : FitsSigned w128 c.in_ok-read_exponent.field-0 = search rules in
    simp to_z-of_z (plain_tail c.args.text.now c.in_ok-read_exponent.field-0 c.in_ok-read_exponent.ensures.some)

pub returns-in_err-read_exponent-2-clause-only : goal.returns-in_err-read_exponent-2-clause-only
returns-in_err-read_exponent-2-clause-only c fraction power is =
    absurd (not_none power (c.in_err-read_exponent-2.ensures.only power
    (tail_at_run c.args.text.now c.in-Some.behind.now fraction power c.leading_digits-count.result c.leading_digits-count.ensures.within c.leading_digits-count.ensures.digits
    c.leading_digits-count.ensures.stops c.in-Some.ensures.some is).1))

pub returns-clause-some : goal.returns-clause-some
returns-clause-some c =
    let fits : FitsSigned w128 c.in_ok-read_exponent-2.field-0 = search rules in
    simp to_z-of_z
    (pointed_tail c.args.text.now c.in-Some.behind.now c.in_ok-read_exponent-2.field-0 c.leading_digits-count.result c.leading_digits-count.ensures.within c.leading_digits-count.ensures.digits
    c.if-count-eq0.false c.in-Some.ensures.some c.in_ok-read_exponent-2.ensures.some)

pub returns-clause-only : goal.returns-clause-only
returns-clause-only c fraction power is =
    let fits : FitsSigned w128 c.in_ok-read_exponent-2.field-0 = search rules in
    let run = tail_at_run c.args.text.now c.in-Some.behind.now fraction power c.leading_digits-count.result c.leading_digits-count.ensures.within c.leading_digits-count.ensures.digits
    c.leading_digits-count.ensures.stops c.in-Some.ensures.some is in
    (run.0, simp to_z-of_z (sym (same_some c.in_ok-read_exponent-2.field-0 power (c.in_ok-read_exponent-2.ensures.only power run.1))))
