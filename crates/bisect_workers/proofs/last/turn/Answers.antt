use Rattle.history_model.specs.{declared.entries.Author.TheVariants.Bisect, Entries.entries_of}
use Rattle.std.proofs.{Common.{◌≡◌, [], sym, ap, subst, Option, Some, arith}, lemmas.Grind.common_steps}
use Rattle.track_room.specs.{Settling.entry_said, Asking.IsOpenQuestion, Work.{IsUntaken, Work}, Questions.IsFirstQuestion, Question.Question}
use Rattle.track_model.specs.Tracks.{Track, with_entry}
use Rattle.bisect_workers.{specs.Bisecting.IsBisected, proofs.Joined.nothing, proofs.Turning.{recorded, unused, used}}
use Rattle.bisect_workers.proofs.last.turn.Goals as goal

-- what a state's machine is asked, its machine's history asks
of-state : (old lent : Track) → lent ≡ old → (o : Option Question) → IsOpenQuestion (entries_of lent.history) [] o → IsOpenQuestion (entries_of old.history) [] o
of-state old lent is o asked = subst (λ (t : Track). IsOpenQuestion (entries_of t.history) [] o) is asked

asked-first : (old lent : Track) → lent ≡ old → (q : Question) (o : Option Question) → o ≡ Some q → IsOpenQuestion (entries_of lent.history) [] o → IsFirstQuestion (entries_of old.history) [] q
asked-first old lent is q o found asked = subst (λ (p : Option Question). IsOpenQuestion (entries_of old.history) [] p) found (of-state old lent is o asked)

pub returns-in_err-question-clause-bisected : goal.returns-in_err-question-clause-bisected
returns-in_err-question-clause-bisected g c = grind (arith, common_steps, nothing)

pub returns-in_default-clause-bisected : goal.returns-in_default-clause-bisected
returns-in_default-clause-bisected g c = grind (arith, common_steps, nothing)

pub returns-in_err-status-clause-bisected : goal.returns-in_err-status-clause-bisected
returns-in_err-status-clause-bisected g c = grind (arith, common_steps, nothing)

pub returns-in_err-settle-clause-bisected : goal.returns-in_err-settle-clause-bisected
returns-in_err-settle-clause-bisected g c =
    let old : Track = c.args.state.now.track in
    let first : IsFirstQuestion (entries_of old.history) [] c.in-Some.question = asked-first old c.track.result.now c.track.ensures c.in-Some.question _ c.in-Some.is c.in_ok-question.ensures in
    subst (λ (t : Track). IsBisected (Bisect 1) c.args.test.now old t (g.R.Runner.asked c.args.runner.now) (g.R.Runner.asked c.ask.new.runner) (g.R.Runner.faults c.args.runner.now) (g.R.Runner.faults c.ask.new.runner))
    (sym (ap (λ (w : Work). w.track) c.in_err-settle.ensures.same))
    (unused (Bisect 1) c.args.test.now old c.in-Some.question first.question c.in_ok-status.status (g.R.Runner.asked c.args.runner.now) (g.R.Runner.asked c.ask.new.runner)
    (g.R.Runner.faults c.args.runner.now) (g.R.Runner.faults c.ask.new.runner) c.in_ok-status.ensures.asked c.in_ok-status.ensures.faults c.ask.ensures.counts)

pub returns-clause-bisected : goal.returns-clause-bisected
returns-clause-bisected g c =
    let old : Track = c.args.state.now.track in
    let first : IsFirstQuestion (entries_of old.history) [] c.in-Some.question = asked-first old c.track.result.now c.track.ensures c.in-Some.question _ c.in-Some.is c.in_ok-question.ensures in
    let is : c.settle.new.self.track ≡ with_entry (Bisect 1) old (entry_said c.in-Some.question.job c.in-Some.question.place c.in_ok-status.status) =
    recorded c.within_law.ensures.kept old (Bisect 1) c.in-Some.question c.in_ok-status.status c.in_ok-settle.field-0 c.settle.new.self.track first.question c.requires c.in_ok-settle.ensures.settled.track in
    used (Bisect 1) c.args.test.now old c.in-Some.question first.question c.in_ok-status.status c.settle.new.self.track is (g.R.Runner.asked c.args.runner.now) (g.R.Runner.asked c.ask.new.runner)
    (g.R.Runner.faults c.args.runner.now) (g.R.Runner.faults c.ask.new.runner) c.in_ok-status.ensures.asked c.in_ok-status.ensures.faults

pub returns-in_err-settle-clause-free : goal.returns-in_err-settle-clause-free
returns-in_err-settle-clause-free g c free = subst IsUntaken (sym c.in_err-settle.ensures.same) free
