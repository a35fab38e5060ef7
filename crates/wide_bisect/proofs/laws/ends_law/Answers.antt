use Rattle.wide_bisect.proofs.Histories.{ends_were_answered}
use Rattle.wide_bisect.proofs.laws.ends_law.Goals as goal

pub returns : goal.returns
returns c = ends_were_answered
