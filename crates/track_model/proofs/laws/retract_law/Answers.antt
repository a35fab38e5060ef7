use Rattle.track_model.proofs.Forms.{retract-steps-full, retract-added}
use Rattle.track_model.proofs.laws.retract_law.Goals as goal

pub returns-clause-steps_full : goal.returns-clause-steps_full
returns-clause-steps_full c = retract-steps-full c.within_law.ensures.passed c.within_law.ensures.kept

pub returns-clause-added : goal.returns-clause-added
returns-clause-added c = retract-added c.within_law.ensures.passed c.within_law.ensures.kept

pub returns-clause-allowed : goal.returns-clause-allowed
returns-clause-allowed c h run keeps known live room = ((known, live), c.limits_law.ensures.retract h run keeps room)
