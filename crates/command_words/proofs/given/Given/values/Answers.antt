use Rattle.std.proofs.Common.{ℕ, List, [], Option, unwrap_or, ap, ◌∙◌}
use Rattle.clap.{specs.Words.{Row, all_of, found_of}, proofs.WalkLemmas.raw_values-rows}
use Rattle.command_words.specs.Texts.{shown}
use Rattle.command_words.proofs.given.Given.values.Goals as goal

abbrev given : Option (List (List ℕ)) → List (List ℕ)
given told = unwrap_or told []

pub returns-in_ok-from_slice-in-Some : goal.returns-in_ok-from_slice-in-Some
returns-in_ok-from_slice-in-Some c =
    ap shown c.in_ok-from_slice-in-Some.ensures.items
    ∙ ap given (c.in-Some.ensures ∙ raw_values-rows (found_of c.self.inside.matches) c.args.id.now)
    ∙ ap (λ (rows : List Row). given (all_of c.args.id.now rows)) c.self.view_is

pub returns-in-None : goal.returns-in-None
returns-in-None c =
    ap shown c.new.ensures.items
    ∙ ap given (c.in-None.ensures ∙ raw_values-rows (found_of c.self.inside.matches) c.args.id.now)
    ∙ ap (λ (rows : List Row). given (all_of c.args.id.now rows)) c.self.view_is
