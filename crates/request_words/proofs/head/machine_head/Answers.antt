use Rattle.request_words.proofs.HeadLines.{machine_behind, machine_formless, machine_unnamed, machine_asks}
use Rattle.request_words.proofs.head.machine_head.Goals as goal

pub returns-in_default : goal.returns-in_default
returns-in_default c line verb = rw c.formless.ensures (machine_formless c.args.asked verb c.in_default.ensures.none)

pub returns : goal.returns
returns c line verb =
    let named = rw c.in-Some-2.is at c.in_ok-machine.ensures.some in
    rw (c.machine_request.ensures, named) (machine_asks c.args.asked line c.in-Some.m.now (machine_behind c.args.asked verb c.in-Some.ensures.some) (rw c.in-Some-2.is at c.in_ok-machine.ensures.told))

pub returns-in_default-2 : goal.returns-in_default-2
returns-in_default-2 c line verb = rw c.unnamed.ensures (machine_unnamed c.args.asked line _ (machine_behind c.args.asked verb c.in-Some.ensures.some) c.in_default-2.is c.in_ok-machine.ensures.told)
