use Rattle.std.proofs.{Common.{◌<◌, length, sym, arith}, lemmas.Bool.{eqb-true, eqb-false, eq-eqb}}
use Rattle.fixed_value.proofs.Grammar.{all_digits}
use Rattle.fixed_value.proofs.digits.are_digits.Goals as goal

pub returns-then-not-is_empty : goal.returns-then-not-is_empty
returns-then-not-is_empty c =
    let never = eqb-false (length c.args.text.now) 0 (sym c.if-not-is_empty.ensures) in
    let some : 0 < length c.args.text.now = omega (arith, never) in
    let both = all_digits c.args.text.now c.leading_digits.result c.leading_digits.ensures.within c.leading_digits.ensures.digits c.leading_digits.ensures.stops some in
    (λ told. both.0 (eqb-true c.leading_digits.result (length c.args.text.now) told), λ digits. eq-eqb c.leading_digits.result (length c.args.text.now) (both.1 digits))
