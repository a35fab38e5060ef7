use Rattle.store_rows.proofs.Unique.{unique}
use Rattle.store_rows.proofs.row.rows_law.Goals as goal

pub returns : goal.returns
returns c = unique c.names_law.ensures.names
