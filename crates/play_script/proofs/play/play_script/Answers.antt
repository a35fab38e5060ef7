use Rattle.std.proofs.Common.{Bool, subst}
use Rattle.script_loop.specs.Paced.{Paced}
use Rattle.play_script.proofs.Played.{is-played}
use Rattle.play_script.proofs.play.play_script.Goals as goal

pub returns-clause-played : goal.returns-clause-played
returns-clause-played g c =
    is-played g.I.Source g.O.Sink c.args.input.now c.answer_paced.new.input c.args.out.now c.answer_paced.new.out g.D.Beside.post g.D.Desk.answers g.D.Desk.fails
    g.met.D.Beside.asking g.met.D.Beside.wanting c.parts_law.ensures.part c.parts_law.ensures.waits c.args.desk.now c.answer_paced.new.desk c.answer_paced.result c.requires.empty (subst (λ (e : Bool). Paced g.I.Source g.O.Sink c.args.input.now c.answer_paced.new.input c.args.out.now c.answer_paced.new.out g.D.Desk.answers g.D.Desk.fails e c.args.desk.now c.answer_paced.new.desk c.answer_paced.result) c.requires.each c.answer_paced.ensures.ends)
