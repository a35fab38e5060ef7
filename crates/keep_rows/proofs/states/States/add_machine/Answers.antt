use Rattle.std.{proofs.Common.{◌≡◌, List, [], ◌∷◌, ◌++◌, None, sym, ap, subst, ◌∙◌, arith}, specs.Prelude.find}
use Rattle.track_model.specs.Tracks.{Track}
use Rattle.keep_rows.{specs.Kept.AreKept, specs.Loading.stored_track, specs.Machines.is_track, proofs.Machines.machine_more, proofs.Replayed.none_of}
use Rattle.keep_rows.proofs.states.States.add_machine.Goals as goal

pub invariant_of-self-2 : goal.invariant_of-self-2
invariant_of-self-2 c =
    let tracks : List Track = c.self.inside.machines.items in
    let absent : find (is_track c.args.machine) c.deref.result.now ≡ None = none_of c.place_of.result c.place_of.ensures.none (sym c.is_some.ensures ∙ c.if-is_some.false) in
    let pushed : c.push.new.self.items ≡ tracks ++ stored_track c.args.machine ∷ [] = c.in_ok-push.ensures.items ∙ ap (λ (t : Track). tracks ++ t ∷ []) c.new.ensures in
    subst AreKept (sym pushed)
    (machine_more c.args.machine tracks (subst (λ (ts : List Track). find (is_track c.args.machine) ts ≡ None) c.deref.ensures.value absent)
    (omega (arith, c.if-len-most.false, c.len.ensures, c.most.ensures)) c.self.invariant)
