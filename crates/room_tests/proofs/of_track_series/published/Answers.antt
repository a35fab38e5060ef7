use Rattle.history_model.specs.declared.entries.Author.TheVariants.{Script}
use Rattle.room_tests.proofs.Added.{published-grows, same}
use Rattle.room_tests.proofs.of_track_series.published.Goals as goal

pub publish-requires-clause-made : goal.publish-requires-clause-made
publish-requires-clause-made c = c.requires.made

pub publish-requires-clause-tabled : goal.publish-requires-clause-tabled
publish-requires-clause-tabled c = c.requires.tabled

pub returns-in-Ok : goal.returns-in-Ok
returns-in-Ok c = published-grows c.args.track.now (Script 1) c.args.redone.done c.in-Ok.told c.publish.new.track c.in-Ok.ensures.published

pub returns-in-Err : goal.returns-in-Err
returns-in-Err c = same c.args.track.now c.publish.new.track c.in-Err.ensures.same
