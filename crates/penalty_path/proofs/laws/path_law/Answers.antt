use Rattle.penalty_path.proofs.Whole.{one-path, short-path}
use Rattle.penalty_path.proofs.laws.path_law.Goals as goal

pub returns-clause-unique : goal.returns-clause-unique
returns-clause-unique c points low high one other = one-path points (c.points_law.ensures points) low high one other

pub returns-clause-short : goal.returns-clause-short
returns-clause-short c points low high stretches = short-path points (c.points_law.ensures points) low high stretches
