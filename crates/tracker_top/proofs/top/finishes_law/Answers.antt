use Rattle.std.proofs.lemmas.List.Elements.{All-weaker}
use Rattle.history_model.specs.Entries.{entries_of}
use Rattle.trial_script.specs.Sessions.{HasLegalHistory}
use Rattle.track_model.specs.Tracks.{Track}
use Rattle.tracker_top.specs.Answers.{BisectsWell}
use Rattle.tracker_top.proofs.top.finishes_law.Goals as goal

pub returns : goal.returns
returns c =
    All-weaker HasLegalHistory BisectsWell (λ (t : Track) legal. c.finished_law.ensures (entries_of t.history) legal) c.args.session.now.tracks c.histories_law.ensures
