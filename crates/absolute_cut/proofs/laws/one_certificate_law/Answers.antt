use Rattle.segment_cost.proofs.Certified.{one-standing}
use Rattle.absolute_cut.specs.Certificate.{StandsFor, distances_between}
use Rattle.absolute_cut.proofs.laws.one_certificate_law.Goals as goal

pub returns : goal.returns
returns c = one-standing c.best_list_law.ensures.unique c.table_law.ensures.unique distances_between StandsFor c.certificate_law.ensures.standing
