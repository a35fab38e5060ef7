use Rattle.std.proofs.Common.{rules, map, sym, ◌∙◌}
use Rattle.json_text.specs.View.{tree_of, entry_of}
use Rattle.lnt_report.proofs.Answers.{refused, answered}
use Rattle.lnt_report.proofs.report.read_top.Goals as goal

pub returns-in_err-gathered : goal.returns-in_err-gathered
returns-in_err-gathered c = λ tree e clean.
    let fact = refused tree (map entry_of c.args.top.now) (map tree_of c.in-Some-list_at.tests.now) c.in_err-gathered.field-0.0 e clean
    c.in-Some-list_at.ensures.items c.in_err-gathered.ensures in
    search (rules, fact)

pub returns : goal.returns
returns c = λ tree e clean.
    answered tree (map entry_of c.args.top.now) (map tree_of c.in-Some-list_at.tests.now) c.in-Some.machine c.in-Some-2.commit c.in_ok-gathered.gathered c.run_of.result e clean
    (sym c.in_ok-machine.ensures ∙ c.in-Some.is) (sym c.in_ok-commit.ensures ∙ c.in-Some-2.is) c.in-Some-list_at.ensures.items c.in_ok-gathered.ensures
    c.run_of.ensures.run c.run_of.ensures.all c.run_of.ensures.few c.run_of.ensures.full c.run_of.ensures.over
