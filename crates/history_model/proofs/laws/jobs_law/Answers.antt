use Rattle.std.proofs.Common.{arith}
use Rattle.history_model.proofs.{Jobs.{jobs-kept, job-begun, job-goes-on, limits-job}, Ends.ends-declared, Naming.jobs-named, Turns.{begin-opens, limits-turn}}
use Rattle.history_model.proofs.laws.jobs_law.Goals as goal

pub returns-clause-stay : goal.returns-clause-stay
returns-clause-stay c = jobs-kept

pub returns-clause-begun : goal.returns-clause-begun
returns-clause-begun c = job-begun

pub returns-clause-go_on : goal.returns-clause-go_on
returns-clause-go_on c = job-goes-on

pub returns-clause-limits : goal.returns-clause-limits
returns-clause-limits c h e keeps steps under_way = limits-job h e keeps (omega arith) under_way

pub returns-clause-opens : goal.returns-clause-opens
returns-clause-opens c = begin-opens

pub returns-clause-turn : goal.returns-clause-turn
returns-clause-turn c h number place e keeps steps asks turn = limits-turn h number place e keeps (omega arith) asks turn

pub returns-clause-ends : goal.returns-clause-ends
returns-clause-ends c = ends-declared c.bound_law.ensures

pub returns-clause-named : goal.returns-clause-named
returns-clause-named c = jobs-named c.bound_law.ensures
