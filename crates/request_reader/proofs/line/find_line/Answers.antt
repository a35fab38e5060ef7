use Rattle.std.proofs.{Common.{arith, []}, lemmas.Result.err_from_is_err_and, lemmas.Grind.common_steps}
use Rattle.request_reader.proofs.Stops.{gains_none, fails_gain}
use Rattle.request_reader.proofs.line.find_line.Goals as goal

pub loop-end-init : goal.loop-end-init
loop-end-init g c = (([], gains_none _ _ c.limits.ensures), omega arith)

pub returns-in_err-end-clause-err : goal.returns-in_err-end-clause-err
returns-in_err-end-clause-err g c = grind (arith, common_steps, err_from_is_err_and, fails_gain)

pub returns-in_err-end-clause-counts : goal.returns-in_err-end-clause-counts
returns-in_err-end-clause-counts g c = omega (arith, c.loop-end.invariant.1, c.line_turn.ensures.counts)

pub returns-in-Some-clause-counts : goal.returns-in-Some-clause-counts
returns-in-Some-clause-counts g c = omega (arith, c.loop-end.invariant.1, c.line_turn.ensures.counts)
