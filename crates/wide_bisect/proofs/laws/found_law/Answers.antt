use Rattle.wide_bisect.proofs.Histories.{found_are_neighbours}
use Rattle.wide_bisect.proofs.laws.found_law.Goals as goal

pub returns : goal.returns
returns c = found_are_neighbours
