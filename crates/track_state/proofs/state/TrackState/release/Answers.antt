use Rattle.std.proofs.Common.{cond, List, ap, ◌∙◌}
use Rattle.history_model.specs.{declared.entries.Entry.Entry, Entries.entries_of, Runs.same_series}
use Rattle.touch_index.specs.{Marks.mark_of, declared.mark.Claim.TheVariants.Free}
use Rattle.track_state.{specs.Work.{Work, claim_on, key_of, series_of}, proofs.Opening.{claimed-claims, claimed-covers, makes-free}}
use Rattle.track_state.proofs.state.TrackState.release.Goals as goal

pub invariant_of-self : goal.invariant_of-self
invariant_of-self c =
    claimed-covers (entries_of c.self.inside.track.history) c.self.inside.seen c.self.inside.touched c.set_claim.new.self c.self.invariant c.args.key.now Free c.set_claim.ensures (λ is. absurd (cc))

pub returns-clause-claims : goal.returns-clause-claims
returns-clause-claims c t =
    let h : List Entry = entries_of c.self.inside.track.history in
    claimed-claims h c.self.inside.seen c.self.inside.touched c.set_claim.new.self c.self.invariant c.args.key.now Free c.set_claim.ensures
    (λ s same. makes-free h s (mark_of (key_of s) c.self.inside.touched)) t
    ∙ ap (λ (w : Work). cond (same_series (series_of c.args.key.now) t) Free (claim_on t w)) c.self.view_is
