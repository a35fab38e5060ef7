use Rattle.std.proofs.Common.{List, ℕ, Option, refl, sym, subst}
use Rattle.tracker_top.{specs.Endings.{EndsApply, streams}, proofs.Endings.ends-alone}
use Rattle.tracker_top.proofs.top.apply_on.Goals as goal

pub returns-in-None : goal.returns-in-None
returns-in-None g c =
    let ends = c.apply.ensures in
    let start = streams c.args.input.now c.args.out.now c.args.keeper.now c.args.steps.now in
    let finish = streams c.apply.new.input c.apply.new.out c.args.keeper.now c.apply.new.steps in
    subst (λ (store : Option (List ℕ)). EndsApply g.I.Source g.O.Sink g.K.Keeper start finish store c.apply.result) (sym c.in-None.is)
    (ends-alone g.I.Source g.O.Sink g.K.Keeper ends.0 start finish ends.1 c.apply.result refl ends.2 ends.3)
