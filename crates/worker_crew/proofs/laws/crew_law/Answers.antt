use Rattle.worker_crew.proofs.{Seated.{bisectors-sit, joins-go-on, recomputers-sit, seats-share, splits-go-on}, Whole.crew-gives}
use Rattle.worker_crew.proofs.laws.crew_law.Goals as goal

pub returns-clause-recompute : goal.returns-clause-recompute
returns-clause-recompute g c = recomputers-sit

pub returns-clause-bisect : goal.returns-clause-bisect
returns-clause-bisect g c = bisectors-sit g.A.Runner

pub returns-clause-splits : goal.returns-clause-splits
returns-clause-splits g c = splits-go-on

pub returns-clause-joins : goal.returns-clause-joins
returns-clause-joins g c = joins-go-on

pub returns-clause-share : goal.returns-clause-share
returns-clause-share g c = seats-share

pub returns-clause-runs : goal.returns-clause-runs
returns-clause-runs g c = crew-gives g.A.Runner
