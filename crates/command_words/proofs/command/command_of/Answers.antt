use Rattle.command_words.{specs.Texts.texts, specs.Commands.IsSpelled, proofs.Commands.{none_words, not_named, not_given, told_spelled, some_told, none_told}}
use Rattle.command_words.proofs.command.command_of.Goals as goal

pub returns-in_default-clause-none : goal.returns-in_default-clause-none
returns-in_default-clause-none c = none_words c.args.words.now c.in_default.ensures.cases

pub returns-in_default-kind_named-clause-none : goal.returns-in_default-kind_named-clause-none
returns-in_default-kind_named-clause-none c =
    not_named c.args.words.now c.in-Some.name.now c.in-Some.rest.now c.as_str.result.now c.in-Some.ensures.cases.0 c.as_str.ensures.value c.in_default-kind_named.ensures

pub returns-in_default-2-clause-none : goal.returns-in_default-2-clause-none
returns-in_default-2-clause-none c =
    not_given c.args.words.now c.in-Some.name.now c.in-Some.rest.now c.as_str.result.now c.in-Some-kind_named.kind c.in-Some.ensures.cases.0 c.as_str.ensures.value c.in-Some-kind_named.ensures
    (rw c.in_default-2.is at c.in_ok-given.ensures)

pub returns-clause-some : goal.returns-clause-some
returns-clause-some c =
    some_told (IsSpelled (texts c.args.words.now)) c.said_by.result
    (told_spelled c.args.words.now c.in-Some.name.now c.in-Some.rest.now c.as_str.result.now c.in-Some-kind_named.kind c.in-Some-2.given c.in-Some.ensures.cases.0 c.as_str.ensures.value
    c.in-Some-kind_named.ensures (rw c.in-Some-2.is at c.in_ok-given.ensures) c.said_by.result c.said_by.ensures)

pub returns-clause-none : goal.returns-clause-none
returns-clause-none c =
    none_told (IsSpelled (texts c.args.words.now)) c.said_by.result
    (told_spelled c.args.words.now c.in-Some.name.now c.in-Some.rest.now c.as_str.result.now c.in-Some-kind_named.kind c.in-Some-2.given c.in-Some.ensures.cases.0 c.as_str.ensures.value
    c.in-Some-kind_named.ensures (rw c.in-Some-2.is at c.in_ok-given.ensures) c.said_by.result c.said_by.ensures)
