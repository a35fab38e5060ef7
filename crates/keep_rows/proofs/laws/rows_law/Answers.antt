use Rattle.keep_rows.proofs.Once.{determined}
use Rattle.keep_rows.proofs.laws.rows_law.Goals as goal

pub returns : goal.returns
returns c = c.loading_law.ensures (determined c.rows_law.ensures c.entries_law.ensures c.entries_v1_law.ensures)
