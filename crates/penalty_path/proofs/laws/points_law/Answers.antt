use Rattle.penalty_path.proofs.Known.{known}
use Rattle.penalty_path.proofs.laws.points_law.Goals as goal

pub returns : goal.returns
returns c =
    known c.cost_law.ensures.computed c.cost_law.ensures.unique c.agreeing_costs_law.ensures.best c.best_list_law.ensures.unique c.penalties_law.ensures.fall c.penalties_law.ensures.count
    c.penalties_law.ensures.between c.one_certificate_law.ensures
