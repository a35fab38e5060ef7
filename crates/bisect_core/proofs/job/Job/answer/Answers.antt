use Rattle.std.proofs.{Common.arith, lemmas.Grind.common_steps}
use Rattle.bisect_core.proofs.Sounds.{is_asked, asked_half, questions_fit, sound_status, recorded_status}
use Rattle.bisect_core.proofs.job.Job.answer.Goals as goal

pub after_status-requires-clause-more : goal.after_status-requires-clause-more
after_status-requires-clause-more c = grind (arith, common_steps, asked_half, is_asked, questions_fit)

pub go_on-requires : goal.go_on-requires
go_on-requires c =
    rw (← c.self.view_is, c.after_status.ensures)
    (sound_status c.self.inside.commits c.self.inside.progress c.args.place c.args.status c.commit-commit.result (is_asked c.self.inside.commits c.self.inside.progress c.args.place c.commit-commit.result c.in-Asks.asked c.args.self.now c.self.invariant c.self.view_is c.in-Asks.is c.if-asked-place.false c.commit-commit.ensures))

pub returns-clause-done : goal.returns-clause-done
returns-clause-done c ok commits turns was = grind (arith, common_steps, recorded_status, is_asked)
