use Rattle.track_model.proofs.{Forms.{tune-steps-full, tune-added}, Tunings.{free-follows, follows-free}}
use Rattle.track_model.proofs.laws.tune_law.Goals as goal

pub returns-clause-steps_full : goal.returns-clause-steps_full
returns-clause-steps_full c = tune-steps-full c.within_law.ensures.passed c.within_law.ensures.kept

pub returns-clause-added : goal.returns-clause-added
returns-clause-added c = tune-added c.within_law.ensures.passed c.within_law.ensures.kept

pub returns-clause-follows : goal.returns-clause-follows
returns-clause-follows c h metric penalty len = (free-follows metric penalty len, follows-free metric penalty len)
