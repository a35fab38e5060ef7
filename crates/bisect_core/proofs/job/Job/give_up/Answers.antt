use Rattle.std.proofs.Common.{◌∙◌}
use Rattle.bisect_core.proofs.Sounds.{is_asked, recorded_given_up}
use Rattle.bisect_core.proofs.job.Job.give_up.Goals as goal

pub returns-clause-done : goal.returns-clause-done
returns-clause-done c ok commits turns was =
    c.go_on.ensures ∙ rw (← c.self.view_is, c.after_giving_up.ensures)
    (recorded_given_up c.self.inside.commits c.self.inside.progress c.args.place c.commit-commit.result commits turns (c.self.view_is ∙ was) (is_asked c.self.inside.commits c.self.inside.progress c.args.place c.commit-commit.result c.in-Asks.asked c.args.self.now c.self.invariant c.self.view_is c.in-Asks.is c.if-asked-place.false c.commit-commit.ensures))
