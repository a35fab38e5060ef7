use Rattle.script_desk.proofs.Losing.{none-left, one-left}
use Rattle.script_desk.proofs.machines.answer_request.Goals as goal

pub returns-in-Some-clause-left : goal.returns-in-Some-clause-left
returns-in-Some-clause-left g c =
    one-left c.answer.result c.args.machines.now.items c.in-Some.i c.index_mut.result.now c.answer.new.track c.index_mut.ensures.value c.answer.ensures.left

pub returns-clause-left : goal.returns-clause-left
returns-clause-left g c = none-left c.answer_unknown.result c.args.machines.now.items c.answer_unknown.new.machines.items c.answer_unknown.ensures.err
