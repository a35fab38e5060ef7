use Rattle.std.proofs.{Common.{arith, []}, lemmas.Result.err_from_is_err_and, lemmas.Grind.common_steps}
use Rattle.request_reader.proofs.Stops.{gains_none, fails_gain, few_gain, needs_more}
use Rattle.request_reader.proofs.need.need.Goals as goal

pub loop-enough-init : goal.loop-enough-init
loop-enough-init g c = (([], gains_none _ _ c.limits.ensures), omega arith)

pub returns-in_err-enough-clause-err : goal.returns-in_err-enough-clause-err
returns-in_err-enough-clause-err g c = grind (arith, common_steps, err_from_is_err_and, fails_gain, needs_more)

pub returns-in_err-enough-clause-few : goal.returns-in_err-enough-clause-few
returns-in_err-enough-clause-few g c = grind (arith, common_steps, err_from_is_err_and, few_gain)

pub returns-in_err-enough-clause-counts : goal.returns-in_err-enough-clause-counts
returns-in_err-enough-clause-counts g c = omega (arith, c.loop-enough.invariant.1, c.need_turn.ensures.counts)

pub returns-in-Some-clause-counts : goal.returns-in-Some-clause-counts
returns-in-Some-clause-counts g c = omega (arith, c.loop-enough.invariant.1, c.need_turn.ensures.counts)
