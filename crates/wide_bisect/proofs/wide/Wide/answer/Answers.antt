use Rattle.std.proofs.Common.{◌∙◌, ap, sym}
use Rattle.wide_bisect.specs.{Answers.ending, Searches.Search}
use Rattle.wide_bisect.proofs.wide.Wide.answer.Goals as goal

pub move_on-requires : goal.move_on-requires
move_on-requires c =
    record {
      running = ap (λ (s : Search). s.outcome) (sym c.self.view_is) ∙ c.in-Asks.is;
      statuses = c.args.statuses.now;
      of_round = c.deref-in-None.ensures.0 ∙ c.said-said.ensures;
      no_end = ap ending (c.deref-in-None.ensures.0 ∙ sym c.deref.ensures.0) ∙ sym c.ending_of.ensures ∙ c.in-None.is;
    }
