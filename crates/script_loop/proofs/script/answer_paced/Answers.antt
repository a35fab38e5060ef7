use Rattle.script_loop.proofs.Ending.{ends_ok, ends_stop}
use Rattle.script_loop.proofs.script.answer_paced.Goals as goal

pub returns-in-Ok-clause-ends : goal.returns-in-Ok-clause-ends
returns-in-Ok-clause-ends g c =
    ends_ok g.I.Source g.O.Sink c.args.input.now c.answer_all.new.input c.args.out.now c.answer_all.new.out c.hand_out.new.out g.D.Desk.answers g.D.Desk.fails g.P.Pace.each c.args.desk.now c.answer_all.new.desk c.answer_all.new.replies
    c.hand_out.result c.in-Ok.ensures.ends c.hand_out.ensures.ok c.hand_out.ensures.err

pub returns-clause-ends : goal.returns-clause-ends
returns-clause-ends g c =
    ends_stop g.I.Source g.O.Sink c.args.input.now c.answer_all.new.input c.args.out.now c.answer_all.new.out c.stop_with.new.out g.D.Desk.answers g.D.Desk.fails g.P.Pace.each c.args.desk.now c.answer_all.new.desk c.answer_all.new.replies
    c.in-Err.stop c.stop_with.result c.in-Err.ensures.ends c.stop_with.ensures.stops
