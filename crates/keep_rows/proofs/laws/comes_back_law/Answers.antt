use Rattle.keep_rows.proofs.ComesBack.{comes_back, loaded_kept}
use Rattle.keep_rows.proofs.laws.comes_back_law.Goals as goal

pub returns : goal.returns
returns c = record { back = comes_back; loaded = loaded_kept }
