use Rattle.script_desk.proofs.GoingOn.{sessions_go_on}
use Rattle.script_desk.proofs.laws.goes_on_law.Goals as goal

pub returns : goal.returns
returns c = sessions_go_on
