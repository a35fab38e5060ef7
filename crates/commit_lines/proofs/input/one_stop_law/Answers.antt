use Rattle.commit_lines.proofs.Exclusion.{one_stop, no_stop, one_list_of}
use Rattle.commit_lines.proofs.input.one_stop_law.Goals as goal

pub returns-clause-stops : goal.returns-clause-stops
returns-clause-stops c = one_stop

pub returns-clause-names : goal.returns-clause-names
returns-clause-names c = no_stop

pub returns-clause-list : goal.returns-clause-list
returns-clause-list c = one_list_of
