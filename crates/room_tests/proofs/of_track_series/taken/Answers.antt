use Rattle.history_model.specs.Runs.{Series}
use Rattle.room_tests.proofs.Added.{same, taken-found, taken-grows}
use Rattle.room_tests.proofs.of_track_series.taken.Goals as goal

pub returns-in-Ok-clause-grows : goal.returns-in-Ok-clause-grows
returns-in-Ok-clause-grows c =
    let s : Series = record { test = c.args.test.now; metric = c.args.metric.now } in
    taken-grows c.args.track.now s c.take_snapshot.new.track c.in-Ok.ensures.taken

pub returns-in-Ok-clause-taken : goal.returns-in-Ok-clause-taken
returns-in-Ok-clause-taken c =
    let s : Series = record { test = c.args.test.now; metric = c.args.metric.now } in
    taken-found c.args.track.now s c.take_snapshot.new.track c.in-Ok.found c.history_law.ensures.legal c.in-Ok.ensures.snapshot c.in-Ok.ensures.taken

pub returns-in-Err-clause-grows : goal.returns-in-Err-clause-grows
returns-in-Err-clause-grows c = same c.args.track.now c.take_snapshot.new.track c.in-Err.ensures.same
