use Rattle.std.proofs.Common.{rules}
use Rattle.json_text.specs.View.{tree_of}
use Rattle.lnt_report.{specs.Numbers.{test_readings, test_ignored}, proofs.Walks.{walked_none, refused_each}}
use Rattle.lnt_report.proofs.gather.read_each.Goals as goal

pub loop-test-init : goal.loop-test-init
loop-test-init c = walked_none test_readings test_ignored tree_of c.args.tests.now c.args.gathered.now

pub returns-in_err-read_test : goal.returns-in_err-read_test
returns-in_err-read_test c all left total more h =
    let refusal = refused_each test_readings test_ignored tree_of c.args.tests.now c.loop-test.test-index c.test-item.result
    c.args.gathered.now c.loop-test.gathered c.read_test.new.gathered
    c.in_err-read_test.field-0.0 c.loop-test-test.true c.test-item.is c.loop-test.invariant c.in_err-read_test.ensures all left total more h in
    search (rules, refusal)
