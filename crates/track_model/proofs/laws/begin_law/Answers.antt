use Rattle.history_model.specs.declared.events.JobEvent.TheVariants as job_event
use Rattle.track_model.proofs.Steps.{jobs-full, begin-steps-full, begin-added}
use Rattle.track_model.proofs.laws.begin_law.Goals as goal

pub returns-clause-jobs_full : goal.returns-clause-jobs_full
returns-clause-jobs_full c = jobs-full c.within_law.ensures.passed c.within_law.ensures.kept

pub returns-clause-steps_full : goal.returns-clause-steps_full
returns-clause-steps_full c = begin-steps-full c.within_law.ensures.passed c.within_law.ensures.kept

pub returns-clause-added : goal.returns-clause-added
returns-clause-added c = begin-added c.within_law.ensures.passed c.within_law.ensures.kept

pub returns-clause-allowed : goal.returns-clause-allowed
returns-clause-allowed c h lo hi keeps first last lt room few = ((first, last, lt), c.jobs_law.ensures.limits h (job_event.Begin lo hi) keeps room few)
