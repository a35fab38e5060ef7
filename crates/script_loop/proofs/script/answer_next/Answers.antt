use Rattle.request_reader.specs.Next.{items_of}
use Rattle.script_loop.proofs.Each.{on_error, lost-by}
use Rattle.script_loop.proofs.script.answer_next.Goals as goal

pub returns-clause-lost : goal.returns-clause-lost
returns-clause-lost g c =
    on_error c.add.result
    (lost-by g.D.Desk.answers g.D.Desk.fails c.args.desk.now (items_of c.args.asked) c.in_ok-reply.field-0 c.reply_to.new.desk c.in_ok-reply.ensures.ok)
