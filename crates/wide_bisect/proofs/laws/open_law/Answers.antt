use Rattle.wide_bisect.proofs.Histories.{open_are_testable}
use Rattle.wide_bisect.proofs.laws.open_law.Goals as goal

pub returns : goal.returns
returns c = open_are_testable
