use Rattle.std.proofs.Common.{arith}
use Rattle.history_model.{specs.Regressions.raised, proofs.Changes.between-declared, proofs.Chosen.chosen-push, proofs.RaisedEnds.regressions-named}
use Rattle.history_model.proofs.Regressions.{state-moved, state-stays, new-detected, limits-regression}
use Rattle.history_model.proofs.laws.regressions_law.Goals as goal

pub returns-clause-raised : goal.returns-clause-raised
returns-clause-raised c = chosen-push raised

pub returns-clause-moved : goal.returns-clause-moved
returns-clause-moved c = state-moved

pub returns-clause-stays : goal.returns-clause-stays
returns-clause-stays c = state-stays

pub returns-clause-new : goal.returns-clause-new
returns-clause-new c = new-detected

pub returns-clause-limits : goal.returns-clause-limits
returns-clause-limits c h e keeps steps = limits-regression h e keeps (omega arith)

pub returns-clause-cuts : goal.returns-clause-cuts
returns-clause-cuts c h p legal stands k lt = between-declared h p legal stands k lt

pub returns-clause-named : goal.returns-clause-named
returns-clause-named c = regressions-named
