use Rattle.std.proofs.Common.{◌∙◌}
use Rattle.name_index.proofs.Finding.{others-stay}
use Rattle.name_index.proofs.places.Places.put.Goals as goal

pub returns-clause-others : goal.returns-clause-others
returns-clause-others c = λ n i apart at.
    others-stay c.args.self.now c.insert-2.new.self c.in_ok-copy.field-0 c.args.place c.in_ok-insert-2.ensures.updates n i (λ same. apart (same ∙ c.in_ok-copy.ensures)) at
