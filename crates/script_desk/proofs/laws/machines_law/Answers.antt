use Rattle.script_desk.proofs.Growing.{sessions_stay}
use Rattle.script_desk.proofs.laws.machines_law.Goals as goal

pub returns : goal.returns
returns c = sessions_stay
