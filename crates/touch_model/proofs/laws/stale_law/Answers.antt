use Rattle.touch_model.proofs.Latest.{latest-stays}
use Rattle.touch_model.proofs.laws.stale_law.Goals as goal

pub returns : goal.returns
returns c = latest-stays c.publication_law.ensures.last c.publication_law.ensures.stays
