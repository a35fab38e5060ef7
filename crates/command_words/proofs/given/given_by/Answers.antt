use Rattle.std.proofs.Common.{◌≡◌, ◌≢◌, [], true, ap, ◌∙◌, rules}
use Rattle.clap.specs.Words.{app_of, fault_of, is_simple_and_free}
use Rattle.command_words.{specs.Kinds.app_for, specs.Texts.texts, proofs.Commands.free}
use Rattle.command_words.proofs.given.given_by.Goals as goal

pub returns : goal.returns
returns c = λ given gives.
    let is : app_of c.in_ok-command_for.field-0 ≡ app_for c.args.kind = c.in_ok-command_for.ensures in
    let simple : is_simple_and_free (app_of c.in_ok-command_for.field-0) ≡ true = ap is_simple_and_free is ∙ free c.args.kind in
    let refused : fault_of (app_of c.in_ok-command_for.field-0) (texts c.args.words.now) ≢ [] = search rules in
    refused (ap (λ a. fault_of a (texts c.args.words.now)) is ∙ gives.taken)
