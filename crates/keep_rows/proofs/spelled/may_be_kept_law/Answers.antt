use Rattle.std.proofs.{Common.{All, subst, arith}, lemmas.List.take_all, lemmas.List.Elements.{All-more, recursion_from_All}}
use Rattle.keep_rows.specs.Growth.{MayBeKept}
use Rattle.keep_rows.proofs.spelled.may_be_kept_law.Goals as goal

pub loop-machine-preserved : goal.loop-machine-preserved
loop-machine-preserved c =
    All-more MayBeKept c.args.machines.now c.loop-machine.machine-index c.machine-item.result (omega (arith, c.loop-machine-test.true)) c.loop-machine.invariant
    (subst MayBeKept c.machine-item.is c.machine_law.ensures)

pub returns : goal.returns
returns c =
    recursion_from_All MayBeKept c.args.machines.now
    (subst (All MayBeKept) (take_all c.loop-machine.machine-index c.args.machines.now (omega (arith, c.loop-machine-test.false))) c.loop-machine.invariant)
