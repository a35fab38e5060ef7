use Rattle.fixed_value.proofs.Powers.{above_largest, above_by_digits}
use Rattle.fixed_value.proofs.scaled.raised.Goals as goal

pub returns-then-zeros-gt16-clause-err : goal.returns-then-zeros-gt16-clause-err
returns-then-zeros-gt16-clause-err c = above_largest c.args.digits c.args.zeros c.requires c.if-zeros-gt16.true

pub returns-then-digits-gt-LARGEST-clause-err : goal.returns-then-digits-gt-LARGEST-clause-err
returns-then-digits-gt-LARGEST-clause-err c = above_by_digits c.args.digits c.args.zeros c.if-digits-gt-LARGEST.true
