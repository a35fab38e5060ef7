use Rattle.wide_bisect.proofs.Asking.{each_asks_open}
use Rattle.wide_bisect.proofs.laws.asked_law.Goals as goal

pub returns : goal.returns
returns c = each_asks_open
