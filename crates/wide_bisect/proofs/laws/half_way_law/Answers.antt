use Rattle.wide_bisect.proofs.Histories.{one_is_half_way}
use Rattle.wide_bisect.proofs.laws.half_way_law.Goals as goal

pub returns : goal.returns
returns c = one_is_half_way
