use Rattle.touch_model.proofs.{Retractions.retracted-stays, Touches.{touches-grow, touches-past}}
use Rattle.touch_model.proofs.laws.touch_law.Goals as goal

pub returns-clause-last : goal.returns-clause-last
returns-clause-last c = touches-grow

pub returns-clause-past : goal.returns-clause-past
returns-clause-past c = touches-past

pub returns-clause-retracted : goal.returns-clause-retracted
returns-clause-retracted c h k run = retracted-stays c.growth_law.ensures.acceptances run h k
