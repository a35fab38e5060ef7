use Rattle.script_session.proofs.Rising.{sessions_count, trials_count}
use Rattle.script_session.proofs.laws.count_law.Goals as goal

pub returns : goal.returns
returns c = record { session = sessions_count; trial = trials_count }
