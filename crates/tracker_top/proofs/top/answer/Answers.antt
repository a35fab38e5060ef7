use Rattle.std.proofs.lemmas.List.Elements.{All-weaker}
use Rattle.history_model.specs.Entries.{entries_of}
use Rattle.trial_script.specs.Sessions.{HasLegalHistory}
use Rattle.track_model.specs.Tracks.{Track}
use Rattle.tracker_top.{specs.Answers.PublishesWell, proofs.Counted.answers-script}
use Rattle.tracker_top.proofs.top.answer.Goals as goal

pub returns : goal.returns
returns g c =
    let now = c.answer_counted-answered.new.desk in
    answers-script g.I.Source g.O.Sink c.count_law.ensures.session c.args.session.now now c.args.input.now c.answer_counted-answered.new.input c.args.out.now c.answer_counted-answered.new.out
    c.args.steps.now c.answer_counted-answered.new.steps c.answer_counted-answered.result c.answer_counted-answered.ensures.ends
    (All-weaker HasLegalHistory PublishesWell (λ (t : Track) legal. c.publication_law.ensures.stand (entries_of t.history) legal) now.tracks c.histories_law.ensures)
    c.finishes_law.ensures c.answer_counted-answered.ensures.few c.answer_counted-answered.ensures.counts
