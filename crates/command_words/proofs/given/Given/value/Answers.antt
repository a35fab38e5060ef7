use Rattle.std.proofs.Common.{List, ap, ◌∙◌}
use Rattle.clap.{specs.Words.{Row, first_of, found_of}, proofs.WalkLemmas.first_value-rows}
use Rattle.command_words.proofs.given.Given.value.Goals as goal

pub returns : goal.returns
returns c =
    c.get_str.ensures ∙ first_value-rows (found_of c.self.inside.matches) c.args.id.now
    ∙ ap (λ (given : List Row). first_of c.args.id.now given) c.self.view_is
