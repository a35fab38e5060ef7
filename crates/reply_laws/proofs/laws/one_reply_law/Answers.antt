use Rattle.reply_laws.proofs.OneReply.{one_adds, one_beside, one_tells, plain_beside}
use Rattle.reply_laws.proofs.laws.one_reply_law.Goals as goal

pub returns-clause-adds : goal.returns-clause-adds
returns-clause-adds c = one_adds c.outcome_law.ensures c.one_certificate_law.ensures

pub returns-clause-tells : goal.returns-clause-tells
returns-clause-tells c = one_tells c.outcome_law.ensures

pub returns-clause-outcomes : goal.returns-clause-outcomes
returns-clause-outcomes c = one_beside c.outcome_law.ensures

pub returns-clause-alone : goal.returns-clause-alone
returns-clause-alone c = plain_beside
