use Rattle.std.proofs.{Common.{refl, arith}, lemmas.List.length-map}
use Rattle.history_model.specs.declared.entries.Entry.TheVariants as entry
use Rattle.history_model.specs.{declared.entries.Placed.Placed, Entries.entries_of}
use Rattle.track_replay.proofs.Series.{no-more}
use Rattle.track_follow.proofs.settling.put_said.Goals as goal

pub add-requires-clause-allowed : goal.add-requires-clause-allowed
add-requires-clause-allowed c = c.requires (omega (arith, length-map c.args.track.now.history (λ (p : Placed). p.entry)))

pub add-requires-clause-more : goal.add-requires-clause-more
add-requires-clause-more c = no-more (entries_of c.args.track.now.history) (entry.Job c.args.event) refl
