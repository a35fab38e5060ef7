use Rattle.std.proofs.Common.{refl}
use Rattle.history_model.specs.declared.events.JobEvent.TheVariants as job_event
use Rattle.track_model.proofs.laws.say_law.Goals as goal

pub returns-clause-tested : goal.returns-clause-tested
returns-clause-tested c h number place status keeps asks room =
    (asks, c.jobs_law.ensures.turn h number place (job_event.Answer number place status) keeps room asks (refl, refl))

pub returns-clause-given_up : goal.returns-clause-given_up
returns-clause-given_up c h number place keeps asks room =
    (asks, c.jobs_law.ensures.turn h number place (job_event.GiveUp number place) keeps room asks (refl, refl))
