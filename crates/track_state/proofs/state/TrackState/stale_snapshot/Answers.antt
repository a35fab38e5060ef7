use Rattle.std.proofs.Common.{◌≡◌, true, List, sym, ap, subst, ◌∙◌, Option}
use Rattle.history_model.specs.{declared.entries.Entry.Entry, Entries.entries_of, Runs.Series}
use Rattle.touch_model.specs.Stale.{is_stale}
use Rattle.track_model.specs.Tracks.{Track}
use Rattle.track_step.specs.{Snapshots.{IsSnapshot, IsTakenAt}, Snapshot.Snapshot}
use Rattle.track_state.{specs.Work.{Work, history_of, series_of}, proofs.Snapped.is-begun}
use Rattle.track_state.proofs.state.TrackState.stale_snapshot.Goals as goal

pub returns-clause-taken : goal.returns-clause-taken
returns-clause-taken c =
    let track : Track = c.self.inside.track in
    let h : List Entry = entries_of track.history in
    let s : Series = record { test = c.args.test.now; metric = c.args.metric.now } in
    let k_is : series_of c.in_ok-key.key ≡ s = ap series_of c.in_ok-key.ensures in
    let stale : is_stale h s ≡ true = ap (is_stale h) (sym k_is) ∙ sym c.is_stale.ensures ∙ c.if-not-is_stale.false in
    let snapshot : IsTakenAt track s c.in-Some.snapshot = subst (λ (o : Option Snapshot). IsSnapshot track s o) c.in-Some.is c.in_ok-snapshot.ensures.snapshot in (
      ap (λ (w : Work). is_stale (history_of w) s) (sym c.self.view_is) ∙ stale,
      subst (λ (w : Work). IsTakenAt w.track s c.in-Some.snapshot) c.self.view_is snapshot,
      is-begun c.args.self.now track c.take_snapshot.new.track c.self.inside.touched c.catch_up.new.touched c.self.inside.claimed.items s c.self.view_is c.in_ok-snapshot.ensures.taken c.catch_up.ensures.claims,
    )
