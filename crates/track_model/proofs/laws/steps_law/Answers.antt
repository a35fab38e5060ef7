use Rattle.track_model.proofs.Steps.{steps-full, step-added}
use Rattle.track_model.proofs.laws.steps_law.Goals as goal

pub returns-clause-full : goal.returns-clause-full
returns-clause-full c = steps-full c.within_law.ensures.passed c.within_law.ensures.kept

pub returns-clause-added : goal.returns-clause-added
returns-clause-added c = step-added c.within_law.ensures.passed c.within_law.ensures.kept
