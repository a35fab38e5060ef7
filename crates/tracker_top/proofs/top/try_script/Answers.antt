use Rattle.std.proofs.{Common.{◌≡◌, List, Ok, Err, subst, sym, ap, ◌∙◌}, lemmas.List.Elements.All-weaker}
use Rattle.history_model.specs.declared.entries.Author.TheVariants as author
use Rattle.history_model.specs.Entries.{entries_of}
use Rattle.script_loop.specs.Endings.{HasAnswered}
use Rattle.trial_script.specs.{Counting.{Counting, counted}, Sessions.{State, AnswersSome, HasLegalHistory}}
use Rattle.track_model.specs.Tracks.{Track}
use Rattle.tracker_top.{specs.Answers.{new_state, PublishesWell}, specs.Endings.RunsScript, specs.declared.status.Status.Status, proofs.Trials.runs}
use Rattle.tracker_top.proofs.top.try_script.Goals as goal

pub returns-in-Ok : goal.returns-in-Ok
returns-in-Ok g c bytes tells sure ends_well refuses_none =
    let ends = c.in-Ok.ensures.ends in
    let now = c.answer_counted-answered.new.desk in
    let well = All-weaker HasLegalHistory PublishesWell (λ (t : Track) legal. c.publication_law.ensures.stand (entries_of t.history) legal) now.tracks c.histories_law.ensures in
    let begun : c.new-trial.result ≡ new_state =
    c.new-trial.ensures ∙ c.new-2.ensures ∙ ap (λ (ts : List Track). let s : State = record { author = author.Script 1; tracks = ts } in s) c.new.ensures.items in
    runs g.I.Source g.O.Sink c.args.script.now c.answer_counted-answered.new.input c.args.out.now c.answer_counted-answered.new.out bytes tells sure ends_well refuses_none c.part_law.ensures.each c.count_law.ensures.trial now c.args.steps.now c.answer_counted-answered.new.steps well
    ends.0 ends.1 (Ok c.in-Ok.field-0) ends.2 (subst (λ (s : State). HasAnswered (Counting AnswersSome) (counted s c.args.steps.now) (counted now c.answer_counted-answered.new.steps) ends.0 ends.1 (Ok c.in-Ok.field-0)) begun ends.3) ends.4

pub returns : goal.returns
returns g c bytes tells sure ends_well refuses_none =
    let ends = c.in-Err.ensures.ends in
    let now = c.answer_counted-answered.new.desk in
    let well = All-weaker HasLegalHistory PublishesWell (λ (t : Track) legal. c.publication_law.ensures.stand (entries_of t.history) legal) now.tracks c.histories_law.ensures in
    let begun : c.new-trial.result ≡ new_state =
    c.new-trial.ensures ∙ c.new-2.ensures ∙ ap (λ (ts : List Track). let s : State = record { author = author.Script 1; tracks = ts } in s) c.new.ensures.items in
    let P : Status → Type 0 = λ status. RunsScript g.O.Sink bytes c.args.out.now c.answer_counted-answered.new.out c.args.steps.now c.answer_counted-answered.new.steps status in
    subst P (sym c.from.ensures)
    (runs g.I.Source g.O.Sink c.args.script.now c.answer_counted-answered.new.input c.args.out.now c.answer_counted-answered.new.out bytes tells sure ends_well refuses_none c.part_law.ensures.each c.count_law.ensures.trial now c.args.steps.now c.answer_counted-answered.new.steps well
    ends.0 ends.1 (Err c.in-Err.stop) ends.2 (subst (λ (s : State). HasAnswered (Counting AnswersSome) (counted s c.args.steps.now) (counted now c.answer_counted-answered.new.steps) ends.0 ends.1 (Err c.in-Err.stop)) begun ends.3) ends.4)
