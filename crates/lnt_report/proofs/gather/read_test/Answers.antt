use Rattle.std.{proofs.Common.{[], Ok, map, ap, sym, ◌∙◌}, specs.List.{flat_map, sum_by}}
use Rattle.json_text.specs.View.{tree_of, entry_of}
use Rattle.lnt_report.specs.Numbers.{entry_readings, entry_ignored, test_readings, test_ignored, named_readings, named_ignored}
use Rattle.lnt_report.proofs.Walks.{gathers_none, gathers_same, test_by}
use Rattle.lnt_report.proofs.gather.read_test.Goals as goal

pub returns-in_default-2 : goal.returns-in_default-2
returns-in_default-2 c =
    let tree = tree_of c.args.value.now in
    let ms = map entry_of c.in-Object.members.now in
    let given = test_by tree ms c.in_ok-test.field-0 c.in-Object.ensures c.in_ok-test.ensures in
    gathers_same [] (test_readings tree) 0 (test_ignored tree) c.args.gathered.now c.args.gathered.now (Ok tt)
    (sym (given.0 ∙ ap (λ name. named_readings name ms) c.in_default-2.is)) (sym (given.1 ∙ ap (λ name. named_ignored name ms) c.in_default-2.is))
    (gathers_none c.args.gathered.now)

pub returns : goal.returns
returns c =
    let tree = tree_of c.args.value.now in
    let ms = map entry_of c.in-Object.members.now in
    let given = test_by tree ms c.in_ok-test.field-0 c.in-Object.ensures c.in_ok-test.ensures in
    gathers_same (flat_map (entry_readings c.in-Some.test) ms) (test_readings tree) (sum_by entry_ignored ms) (test_ignored tree)
    c.args.gathered.now c.read_members.new.gathered c.read_members.result
    (sym (given.0 ∙ ap (λ name. named_readings name ms) c.in-Some.is)) (sym (given.1 ∙ ap (λ name. named_ignored name ms) c.in-Some.is))
    c.read_members.ensures
