use Rattle.std.{proofs.Common.{inr, subst, sym}, specs.Prelude.IfSome}
use Rattle.keep_rows.specs.{Kept.AreKept, Loading.{Stored, LeadTo}}
use Rattle.tracker_top.{specs.Endings.streams, proofs.Endings.ends_kept}
use Rattle.tracker_top.proofs.top.apply_to.Goals as goal

pub returns-in-Ok-append_all : goal.returns-in-Ok-append_all
returns-in-Ok-append_all g c =
    let loaded = c.in-Ok.ensures in
    let added = c.append_all.ensures in
    let kept = subst (λ (s : Stored). AreKept s.machines) (sym c.states.view_is) loaded.kept in
    let led = subst (λ (s : Stored). IfSome (g.K.Keeper.kept c.args.keeper.now) (λ rows. LeadTo rows s)) (sym c.states.view_is) loaded.loaded in
    inr (ends_kept g.I.Source g.O.Sink g.K.Keeper c.states.inside.states.items c.states.inside.version c.answer.new.session
    (streams c.args.input.now c.args.out.now c.args.keeper.now c.args.steps.now) (streams c.answer.new.input c.answer.new.out c.append_all.new.keeper c.answer.new.steps)
    c.args.store.now c.as_str.result.now c.load.new.keeper c.session_on-session.result c.machines.result.now c.in_default.field-0
    c.as_str.ensures c.session_on-session.ensures c.machines.ensures
    kept led loaded.rows (loaded.named (λ is. cc)) loaded.counts
    c.in_default.ensures c.comes_back_law.ensures c.in-Ok-append_all.ensures.all added.named added.counts)
