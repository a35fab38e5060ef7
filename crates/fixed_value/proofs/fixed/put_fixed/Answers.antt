use Rattle.fixed_value.proofs.Back.{fixed_read_back}
use Rattle.fixed_value.proofs.fixed.put_fixed.Goals as goal

pub returns-then-is_err-clause-back : goal.returns-then-is_err-clause-back
returns-then-is_err-clause-back c = fixed_read_back c.args.value c.args.d

pub returns-else-is_err-clause-back : goal.returns-else-is_err-clause-back
returns-else-is_err-clause-back c = fixed_read_back c.args.value c.args.d
