use Rattle.std.proofs.Common.{refl}
use Rattle.history_model.specs.declared.entries.Entry.TheVariants as entry
use Rattle.history_model.specs.{declared.events.RegressionEvent.TheVariants.Move, Entries.entries_of}
use Rattle.track_replay.proofs.Series.{no-more}
use Rattle.track_follow.proofs.regressions.set_state.Goals as goal

pub add-requires-clause-more : goal.add-requires-clause-more
add-requires-clause-more c = no-more (entries_of c.args.track.now.history) (entry.Regression (Move c.args.regression c.args.to)) refl
