use Rattle.wide_bisect.proofs.Histories.{each_is_within_bound}
use Rattle.wide_bisect.proofs.laws.bound_law.Goals as goal

pub returns : goal.returns
returns c = each_is_within_bound
