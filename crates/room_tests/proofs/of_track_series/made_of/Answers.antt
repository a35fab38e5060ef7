use Rattle.std.proofs.Common.{refl}
use Rattle.room_tests.proofs.Added.{made-before, same}
use Rattle.room_tests.proofs.of_track_series.made_of.Goals as goal

pub published-requires-clause-made : goal.published-requires-clause-made
published-requires-clause-made c =
    made-before c.publication_law.ensures.last_stands c.publication_law.ensures.versions c.args.track.now c.args.snapshot c.in-Ok.redone c.requires c.in-Ok.ensures

pub published-requires-clause-tabled : goal.published-requires-clause-tabled
published-requires-clause-tabled c = c.in-Ok.ensures.tabled

pub returns-in-Ok : goal.returns-in-Ok
returns-in-Ok c = c.published.ensures

pub returns-in-Err : goal.returns-in-Err
returns-in-Err c = same c.args.track.now c.args.track.now refl
