use Rattle.std.proofs.{Common.{◌≡◌, ℕ, cond, List, length, refl, sym, ap, ◌∙◌, subst, arith}, lemmas.Grind.common_steps}
use Rattle.history_model.specs.{declared.entries.Entry.Entry, Entries.entries_of, Runs.same_series}
use Rattle.touch_index.specs.{Marks.mark_of, declared.key.SeriesKey.SeriesKey, declared.mark.Claim.Claim, declared.mark.Claim.TheVariants.Taken}
use Rattle.track_model.specs.Tracks.{Track, with_taken}
use Rattle.track_step.specs.Snapshots.{IsTakenAt}
use Rattle.track_state.specs.{Covering.{Covers, MakeSame}, Taking.TakesFirst, Work.{Work, IsFirstBy, claim_by, key_of, series_of}}
use Rattle.track_state.{specs.declared.taking.TakenSeries.TakenSeries, proofs.Snapped.entries-taken, proofs.Opening.{claimed-covers, first-same, taken-claims}}
use Rattle.track_state.proofs.state.TrackState.next_stale_series.Goals as goal

pub invariant_of-self-2 : goal.invariant_of-self-2
invariant_of-self-2 c =
    let h : List Entry = entries_of c.self.inside.track.history in
    let covers : Covers h (length h) c.set_claim.new.self =
    claimed-covers h (length h) c.first_open.new.touched c.set_claim.new.self c.first_open.ensures.covers c.in-Some.key Taken c.set_claim.ensures (λ is. absurd (cc)) in
    subst (λ (x : List Entry). Covers x c.catch_up.new.seen c.set_claim.new.self) (sym (entries-taken c.self.inside.track (series_of c.in-Some.key) c.take_snapshot.new.track c.in_ok-snapshot.ensures.taken))
    (subst (λ (n : ℕ). Covers h n c.set_claim.new.self) (sym c.in_ok-catch_up.ensures.all) covers)

pub returns-clause-taken : goal.returns-clause-taken
returns-clause-taken c =
    let track : Track = c.self.inside.track in
    let h : List Entry = entries_of track.history in
    let key : SeriesKey = c.in-Some.key in
    let old : Work = record { track = track; marks = c.self.inside.touched; jobs = c.self.inside.claimed.items } in
    let taken : TakenSeries = record { key = key; snapshot = c.in-Some-2.snapshot } in
    let same : MakeSame h c.self.inside.touched c.first_open.new.touched = λ s. c.first_open.ensures.claims s ∙ c.catch_up.ensures.claims s in
    let first : IsFirstBy h c.first_open.new.touched (series_of key) = grind (arith, common_steps) in
    let snapshot : IsTakenAt track (series_of key) c.in-Some-2.snapshot = grind (arith, common_steps) in
    let made : (new : Track) → new ≡ with_taken (series_of key) track → TakesFirst old taken (record { track = new; marks = c.set_claim.new.self; jobs = c.self.inside.claimed.items }) =
    λ new is. record {
      first = first-same h c.self.inside.touched c.first_open.new.touched same (series_of key) first;
      snapshot = snapshot;
      track = is;
      claims = λ t. ap (λ (x : List Entry). claim_by x t (mark_of (key_of t) c.set_claim.new.self)) (entries-taken track (series_of key) new is)
          ∙ taken-claims h c.first_open.new.touched c.set_claim.new.self c.first_open.ensures.covers key first.is_open c.set_claim.ensures t
          ∙ ap (λ (claim : Claim). cond (same_series (series_of key) t) Taken claim) (same t);
      jobs = refl;
    } in
    subst (λ (w : Work). TakesFirst w taken (record { track = c.take_snapshot.new.track; marks = c.set_claim.new.self; jobs = c.self.inside.claimed.items }))
    c.self.view_is (made c.take_snapshot.new.track c.in_ok-snapshot.ensures.taken)
