use Rattle.history_model.proofs.{Fits.limits-accept, Limits.{passed-is, kept-is}}
use Rattle.history_model.proofs.laws.within_law.Goals as goal

pub returns-clause-passed : goal.returns-clause-passed
returns-clause-passed c = passed-is

pub returns-clause-kept : goal.returns-clause-kept
returns-clause-kept c = kept-is

pub returns-clause-run : goal.returns-clause-run
returns-clause-run c = limits-accept
