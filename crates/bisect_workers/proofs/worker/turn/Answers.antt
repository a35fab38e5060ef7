use Rattle.std.{proofs.Common.{◌≡◌, ℕ, List, subst, Option, Some, arith}, specs.Prelude.IfSome, proofs.lemmas.Grind.common_steps}
use Rattle.history_model.specs.declared.entries.Author.{Author, TheVariants.Bisect}
use Rattle.track_room.specs.{Sights.Sight, Taking.{IsQuestion, OfSeen}, Question.Question}
use Rattle.bisect_workers.proofs.Besides.{joined, nothing}
use Rattle.bisect_workers.proofs.worker.turn.Goals as goal

pub returns-in_err-machine-clause-bisected : goal.returns-in_err-machine-clause-bisected
returns-in_err-machine-clause-bisected g c = grind (arith, common_steps, nothing)

pub returns-in_default-clause-bisected : goal.returns-in_default-clause-bisected
returns-in_default-clause-bisected g c = grind (arith, common_steps, nothing)

taken-at : (place : ℕ) (q : Question) (pass : List Sight) (o : Option (ℕ × Question)) → o ≡ Some (place, q) → IfSome o (λ t. OfSeen t.0 pass (λ h. IsQuestion h t.1)) → OfSeen place pass (λ h. IsQuestion h q)
taken-at place q pass o is has = subst (λ (p : Option (ℕ × Question)). IfSome p (λ t. OfSeen t.0 pass (λ h. IsQuestion h t.1))) is has

pub finish-requires-clause-asked : goal.finish-requires-clause-asked
finish-requires-clause-asked g c = taken-at c.in-Some.machine c.in-Some.question c.take_question.new.pass c.in_ok-machine.field-0 c.in-Some.is c.in_ok-machine.ensures.known

pub returns-in_err-finish-clause-bisected : goal.returns-in_err-finish-clause-bisected
returns-in_err-finish-clause-bisected g c =
    let author : Author = Bisect c.args.number in
    joined author c.args.test.now c.args.pass.now c.take_question.new.pass c.finish.new.pass (g.A.Runner.asked c.args.runner.now) (g.A.Runner.asked c.args.runner.now) (g.A.Runner.asked c.finish.new.runner)
    (g.A.Runner.faults c.args.runner.now) (g.A.Runner.faults c.args.runner.now) (g.A.Runner.faults c.finish.new.runner)
    (nothing author c.args.test.now c.args.pass.now c.take_question.new.pass (g.A.Runner.asked c.args.runner.now) (g.A.Runner.faults c.args.runner.now) (g.A.Runner.faults c.args.runner.now) c.take_question.ensures.sees (omega arith))
    c.finish.ensures.bisected

pub returns-clause-bisected : goal.returns-clause-bisected
returns-clause-bisected g c =
    let author : Author = Bisect c.args.number in
    joined author c.args.test.now c.args.pass.now c.take_question.new.pass c.finish.new.pass (g.A.Runner.asked c.args.runner.now) (g.A.Runner.asked c.args.runner.now) (g.A.Runner.asked c.finish.new.runner)
    (g.A.Runner.faults c.args.runner.now) (g.A.Runner.faults c.args.runner.now) (g.A.Runner.faults c.finish.new.runner)
    (nothing author c.args.test.now c.args.pass.now c.take_question.new.pass (g.A.Runner.asked c.args.runner.now) (g.A.Runner.faults c.args.runner.now) (g.A.Runner.faults c.args.runner.now) c.take_question.ensures.sees (omega arith))
    c.finish.ensures.bisected
