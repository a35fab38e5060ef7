use Rattle.history_model.proofs.{Accepts.{positions-more, positions-accept}, Removals.positions-without, Withdrawals.{positions-retract, positions-untouched}}
use Rattle.history_model.proofs.Below.{positions-fresh, positions-below}
use Rattle.segment_model.proofs.Inserted.{values-brought}
use Rattle.history_model.proofs.laws.positions_law.Goals as goal

pub returns-clause-take_in : goal.returns-clause-take_in
returns-clause-take_in c = positions-more

pub returns-clause-give_back : goal.returns-clause-give_back
returns-clause-give_back c = positions-without

pub returns-clause-accept : goal.returns-clause-accept
returns-clause-accept c = positions-accept

pub returns-clause-retract : goal.returns-clause-retract
returns-clause-retract c = positions-retract

pub returns-clause-untouched : goal.returns-clause-untouched
returns-clause-untouched c = positions-untouched

pub returns-clause-values : goal.returns-clause-values
returns-clause-values c = values-brought

pub returns-clause-fresh : goal.returns-clause-fresh
returns-clause-fresh c = positions-fresh

pub returns-clause-past : goal.returns-clause-past
returns-clause-past c = positions-below
