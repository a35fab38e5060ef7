use Rattle.command_words.{specs.Texts.shown_if, proofs.Plans.untested}
use Rattle.command_words.proofs.plan.plan_said.Goals as goal

pub returns-then-not-is_tested : goal.returns-then-not-is_tested
returns-then-not-is_tested c = λ x is.
    untested c.args.given.now c.in-Some-count_or-2.bisect (shown_if c.value-3.result) (shown_if c.value-test.result) c.value-3.ensures c.in-Some-count_or-2.ensures.0 c.in-Some-count_or-2.ensures.2
    c.value-test.ensures (λ tested. let bad = c.if-not-is_tested.ensures.1 tested in absurd (cc)) x is.0 is.1
