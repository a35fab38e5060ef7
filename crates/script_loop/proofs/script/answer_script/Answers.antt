use Rattle.script_loop.proofs.Landed.{as_landed}
use Rattle.script_loop.proofs.script.answer_script.Goals as goal

pub returns-clause-ends : goal.returns-clause-ends
returns-clause-ends g c =
    as_landed g.I.Source g.O.Sink c.args.input.now c.answer_paced.new.input c.args.out.now c.answer_paced.new.out g.D.Desk.answers g.D.Desk.fails _ c.args.desk.now c.answer_paced.new.desk
    c.answer_paced.result c.answer_paced.ensures.ends
