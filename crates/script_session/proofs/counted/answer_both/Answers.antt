use Rattle.script_desk.specs.Counting.{Counting, counted}
use Rattle.script_session.proofs.Seen.{script-keeps, script-seen}
use Rattle.script_session.proofs.counted.answer_both.Goals as goal

pub returns-clause-desk : goal.returns-clause-desk
returns-clause-desk g c =
    script-keeps g.I.Source g.O.Sink c.args.input.now c.answer_paced.new.input c.args.out.now c.answer_paced.new.out _ _ _ c.args.both.now c.answer_paced.new.desk
    (λ b. b.desk.ghost_name) (λ s q told t answered. answered.1) (λ s t failed. failed.1) c.answer_paced.result c.answer_paced.ensures.ends

pub returns-clause-steps : goal.returns-clause-steps
returns-clause-steps g c =
    script-keeps g.I.Source g.O.Sink c.args.input.now c.answer_paced.new.input c.args.out.now c.answer_paced.new.out _ _ _ c.args.both.now c.answer_paced.new.desk
    (λ b. b.steps.ghost_name) (λ s q told t answered. answered.2) (λ s t failed. failed.2) c.answer_paced.result c.answer_paced.ensures.ends

pub returns-clause-ends : goal.returns-clause-ends
returns-clause-ends g c =
    script-seen g.I.Source g.O.Sink c.args.input.now c.answer_paced.new.input c.args.out.now c.answer_paced.new.out _ _ _ c.args.both.now c.answer_paced.new.desk
    (λ b. counted b.desk.now b.steps.now) (Counting g.D.CountingDesk.answers) (λ s q told t answered. answered.0) c.answer_paced.result c.answer_paced.ensures.ends
