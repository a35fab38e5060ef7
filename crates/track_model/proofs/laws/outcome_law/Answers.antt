use Rattle.track_model.proofs.Determined.{one-outcome}
use Rattle.track_model.proofs.laws.outcome_law.Goals as goal

pub returns : goal.returns
returns c = one-outcome c.centre_law.ensures.unique c.one_certificate_law.ensures c.noise_law.ensures
