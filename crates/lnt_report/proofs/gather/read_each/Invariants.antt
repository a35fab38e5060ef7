use Rattle.json_text.specs.View.{tree_of}
use Rattle.lnt_report.{specs.Numbers.{test_readings, test_ignored}, proofs.Walks.Walked}
use Rattle.lnt_report.proofs.gather.read_each.Given as goal

-- the tests before this one have been gathered
abbrev pub invariant-loop-test : goal.invariant-loop-test
invariant-loop-test l = Walked test_readings test_ignored tree_of l.tests l.test-index l.fn.gathered l.gathered
