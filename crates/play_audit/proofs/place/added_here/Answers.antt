use Rattle.play_audit.proofs.place.added_here.Goals as goal

pub returns-in_default : goal.returns-in_default
returns-in_default c = record { compared = c.added_behind.ensures.compared c.args.known c.requires.knows.since; goes = c.added_behind.ensures.goes }
