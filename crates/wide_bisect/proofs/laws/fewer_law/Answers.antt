use Rattle.wide_bisect.proofs.Asking.{each_takes_away}
use Rattle.wide_bisect.proofs.laws.fewer_law.Goals as goal

pub returns : goal.returns
returns c = each_takes_away
