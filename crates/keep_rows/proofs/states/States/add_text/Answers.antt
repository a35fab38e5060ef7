use Rattle.std.{proofs.Common.{◌≡◌, true, false, List, IfOk, refl, sym, subst, ◌∙◌}, specs.Prelude.set}
use Rattle.track_model.specs.Tracks.{Track}
use Rattle.keep_rows.{specs.Kept.is_kept, specs.Loading.{Stored, AddsEntry}, specs.Places.IsFirstAt, proofs.Once.one_in}
use Rattle.keep_rows.proofs.Replayed.{first_is, replayed_kept, replayed_adds, replayed_refuses}
use Rattle.keep_rows.proofs.states.States.add_text.Goals as goal

-- the machine at the place is the one that the entry is replayed on
here : (c : goal.After-self-1) → IsFirstAt c.args.machine.now c.self.inside.machines.items c.in-Some.place c.index_mut.result.now
here c = first_is c.args.machine.now c.deref.result.now c.self.inside.machines.items c.in-Some.place c.index_mut.result.now c.deref.ensures.value c.in-Some.ensures.some c.index_mut.ensures.value

plain : (c : goal.After-self-1) → is_kept c.in-Ok.entry ≡ true
plain c = sym c.is_kept.ensures ∙ c.if-not-is_kept.false

pub invariant_of-self-2 : goal.invariant_of-self-2
invariant_of-self-2 c =
    replayed_kept c.args.machine.now c.self.inside.machines.items c.in-Some.place c.index_mut.result.now c.replay.new.track c.in-Ok.entry (here c) (plain c)
    c.replay.result c.replay.ensures.replayed c.replay.ensures.same c.self.invariant

pub returns-clause-added : goal.returns-clause-added
returns-clause-added c =
    subst (λ (s : Stored). IfOk c.replay.result (λ done. done ≡ true → AddsEntry s.version s.machines c.args.machine.now c.args.text.now (set c.self.inside.machines.items c.in-Some.place c.replay.new.track)))
    c.self.view_is
    (replayed_adds c.args.machine.now c.self.inside.machines.items c.in-Some.place c.index_mut.result.now c.replay.new.track c.in-Ok.entry (here c) (plain c)
    c.self.inside.version c.self.inside.machines.items refl c.args.text.now c.in-Ok.ensures.spelt c.replay.result c.replay.ensures.replayed)

pub returns-clause-refused : goal.returns-clause-refused
returns-clause-refused c =
    subst (λ (s : Stored). IfOk c.replay.result (λ done. done ≡ false → (after : List Track) → ¬ AddsEntry s.version s.machines c.args.machine.now c.args.text.now after))
    c.self.view_is
    (replayed_refuses c.args.machine.now c.self.inside.machines.items c.in-Some.place c.index_mut.result.now c.replay.new.track c.in-Ok.entry (here c) (plain c)
    c.self.inside.version c.self.inside.machines.items refl c.args.text.now c.in-Ok.ensures.spelt
    (one_in c.entries_law.ensures c.entries_v1_law.ensures c.self.inside.version c.args.text.now) c.replay.result c.replay.ensures.replayed)
