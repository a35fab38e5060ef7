use Rattle.std.proofs.{Common.{◌≡◌, List, All, ap, subst, ◌∙◌, sym, arith}, lemmas.List.take_all, lemmas.List.Elements.All-more}
use Rattle.track_model.specs.Tracks.{Track}
use Rattle.script_desk.specs.Sessions.{State, HasLegalHistory}
use Rattle.script_desk.proofs.session.Session.histories_law.Goals as goal

pub loop-machine-preserved : goal.loop-machine-preserved
loop-machine-preserved c =
    let tracks : List Track = c.deref-machine-items.result.now in
    let t : Track = c.machine-item.result in
    All-more HasLegalHistory tracks c.loop-machine.machine-index t (omega (arith, c.loop-machine-test.true)) c.loop-machine.invariant
    (subst HasLegalHistory c.machine-item.is c.history_law.ensures.legal)

pub returns : goal.returns
returns c =
    let tracks : List Track = c.deref-machine-items.result.now in
    let whole : All HasLegalHistory tracks =
    subst (All HasLegalHistory) (take_all c.loop-machine.machine-index tracks (omega (arith, c.loop-machine-test.false))) c.loop-machine.invariant in
    let same : c.args.self.now.tracks ≡ tracks = sym (ap (λ (s : State). s.tracks) c.self.view_is) ∙ sym c.deref-machine-items.ensures.value in
    subst (All HasLegalHistory) (sym same) whole
