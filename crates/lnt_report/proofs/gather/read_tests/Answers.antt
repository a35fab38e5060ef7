use Rattle.std.{proofs.Common.{rules, [], map, refl, false, arith}, specs.List.{flat_map, sum_by}, proofs.lemmas.Grind.common_steps}
use Rattle.json_text.specs.View.{tree_of}
use Rattle.lnt_report.{specs.Numbers.{test_readings, test_ignored}, proofs.Walks.at_first}
use Rattle.lnt_report.proofs.gather.read_tests.Goals as goal

pub returns-in_err-read_each : goal.returns-in_err-read_each
returns-in_err-read_each c =
    let tests = map tree_of c.args.tests.now in
    let all = flat_map test_readings tests in
    let total = sum_by test_ignored tests in
    let refusal = c.in_err-read_each.ensures all [] total 0
    (at_first all total (record { samples = c.new.result; over = false; ignored = 0 }) c.new.ensures refl refl) in
    search (rules, refusal)

pub returns : goal.returns
returns c = grind (arith, common_steps, map, flat_map, test_readings, sum_by, test_ignored, at_first)
