use Rattle.store_rows.proofs.Outcomes.{one_outcome}
use Rattle.store_rows.proofs.load.loading_law.Goals as goal

pub returns : goal.returns
returns g c = one_outcome g.S.Restored.does
