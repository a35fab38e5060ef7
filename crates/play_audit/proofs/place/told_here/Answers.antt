use Rattle.play_audit.proofs.place.told_here.Goals as goal

pub returns-in_default : goal.returns-in_default
returns-in_default c = record { compared = c.told_behind.ensures.compared c.args.known c.requires.knows.since; same = c.told_behind.ensures.same }
