use Rattle.std.proofs.{Common.{◌≡◌, ◌≤◌, List, [], ◌∷◌, ◌++◌, length, refl, sym, ap, subst, ◌∙◌, arith}, lemmas.Grind.common_steps}
use Rattle.metric_table.specs.Limits.{most}
use Rattle.metric_table.specs.declared.limits.Limit.TheVariants as limit
use Rattle.history_model.specs.{declared.entries.Entry.Entry, declared.publication.Publication.Publication, Allowed.Allowed, Entries.entries_of}
use Rattle.history_model.specs.declared.entries.Entry.TheVariants as entry
use Rattle.history_model.specs.Publications.{cut_count}
use Rattle.track_model.specs.Tracks.{Track}
use Rattle.machine_state.{specs.Made.IsMadeFrom, specs.Made.entry_of, proofs.OneMore.{publishes, stays}}
use Rattle.machine_state.proofs.state.MachineState.add_publication.Goals as goal

pub invariant_of-self-in_err-insert : goal.invariant_of-self-in_err-insert
invariant_of-self-in_err-insert c =
    let x = c.self.inside in
    rw c.in_ok-reserve.ensures.items (stays (entries_of x.history.items) x.commits x.runs x.series x.series x.known x.settings x.settings x.published c.insert.new.self x.cuts x.following x.following
    c.self.invariant (λ s. refl) (λ metric. refl) c.in_err-insert.ensures.same refl)

pub overflow_add-self : goal.overflow_add-self
overflow_add-self c =
    let h : List Entry = entries_of c.args.self.now.history in
    let few : cut_count (h ++ entry.Publish c.args.publication ∷ []) ≤ most limit.Cuts = c.requires.allowed.1 limit.Cuts in
    let more = c.publication_law.ensures.cuts h (entry.Publish c.args.publication) in
    let cuts_are : c.self.inside.cuts ≡ cut_count h = c.self.invariant.cuts_are ∙ ap (λ (t : Track). cut_count (entries_of t.history)) c.self.view_is in
    let size : c.len-cuts.result ≡ length c.args.publication.cuts = c.len-cuts.ensures ∙ ap (λ (p : Publication). length p.cuts) (sym c.requires.is) in
    record { fits = omega (arith, few, more, cuts_are, size) }

pub invariant_of-self-2 : goal.invariant_of-self-2
invariant_of-self-2 c =
    let x = c.self.inside in
    let h : List Entry = entries_of x.history.items in
    let e : Entry = entry.Publish c.args.publication in
    let h_is : entries_of c.args.self.now.history ≡ h = ap (λ (t : Track). entries_of t.history) (sym c.self.view_is) in
    let e_is : e ≡ entry_of c.args.done = ap (λ (p : Publication). entry.Publish p) c.requires.is in
    let kept : Entry = entry.Publish c.in_ok-publication.publication in
    let kept_is : kept ≡ entry_of c.args.done = ap (λ (p : Publication). entry.Publish p) (c.in_ok-publication.ensures ∙ c.requires.is) in
    let allowed : Allowed h (entry_of c.args.done) = subst (λ (f : Entry). Allowed h f) e_is (subst (λ (before : List Entry). Allowed before e) h_is c.requires.allowed) in
    let made : IsMadeFrom h c.args.done = subst (λ (before : List Entry). IsMadeFrom before c.args.done) h_is c.requires.made in
    let entries_are : entries_of c.push_reserved.new.self.items ≡ h ++ entry_of c.args.done ∷ [] = grind (arith, common_steps) in
    let all = publishes c.growth_law.ensures.legal c.positions_law.ensures.accept c.positions_law.ensures.retract c.positions_law.ensures.untouched c.retraction_law.ensures
    c.setting_law.ensures.set c.setting_law.ensures.stays
    c.publication_law.ensures.last c.publication_law.ensures.stays c.publication_law.ensures.versions c.publication_law.ensures.cuts
    c.regressions_law.ensures.raised c.regressions_law.ensures.stays c.jobs_law.ensures.stay
    h c.args.done x.commits x.runs x.series x.known x.settings x.published c.insert.new.self x.cuts x.following c.self.invariant allowed made c.in_ok-insert.ensures.kept in
    rw (entries_are, c.len-cuts.ensures) all
