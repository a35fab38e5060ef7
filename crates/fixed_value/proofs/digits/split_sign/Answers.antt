use Rattle.std.proofs.Common.{rules, ◌≡◌, get_or, true, false, refl}
use Rattle.fixed_value.{specs.Numerals.{plus, minus}, proofs.Grammar.splits_first}
use Rattle.fixed_value.proofs.digits.split_sign.Goals as goal

pub returns-in-43-clause-joined : goal.returns-in-43-clause-joined
returns-in-43-clause-joined c =
    let first : get_or c.args.text.now 0 0 ≡ 43 = search rules in
    splits_first 43 c.args.text.now false c.in-43.len_at_least first (plus refl refl)

pub returns-in-45-clause-joined : goal.returns-in-45-clause-joined
returns-in-45-clause-joined c =
    let first : get_or c.args.text.now 0 0 ≡ 45 = search rules in
    splits_first 45 c.args.text.now true c.in-45.len_at_least first (minus refl refl)
