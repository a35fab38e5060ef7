use Rattle.keep_rows.proofs.Unpublished.{kept_is_legal}
use Rattle.keep_rows.proofs.laws.kept_law.Goals as goal

pub returns : goal.returns
returns c = kept_is_legal
