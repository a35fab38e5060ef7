use Rattle.std.proofs.{Common.{◌-◌, length, take, drop, arith}, lemmas.Grind.common_steps}
use Rattle.lnt_report.proofs.Written.{first_and_rest, tests_begin, tests_step, tests_end}
use Rattle.lnt_report.proofs.write.put_tests.Goals as goal

pub loop-sample-init : goal.loop-sample-init
loop-sample-init c = grind (arith, common_steps, length, take, drop, first_and_rest, tests_begin)

pub loop-sample-preserved : goal.loop-sample-preserved
loop-sample-preserved c =
    tests_step _ _ _ _ _ _ _ c.loop-sample-test.true c.sample-item.is c.in_ok-put_bytes.ensures c.in_ok-put_test-2.ensures c.loop-sample.invariant

pub returns : goal.returns
returns c = tests_end _ _ _ _ c.loop-sample-test.false c.loop-sample.invariant
