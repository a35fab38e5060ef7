use Rattle.std.proofs.Common.{◌≡◌, List, length, refl, sym, ap, subst, ◌∙◌, Option}
use Rattle.metric_table.specs.declared.limits.Limit.{Limit}
use Rattle.history_model.specs.{declared.entries.Entry.Entry, Allowed.Legal, Entries.entries_of, Publications.last_publication, Runs.{Series, is_known}}
use Rattle.history_model.proofs.Cases.{any-err}
use Rattle.request_model.specs.declared.replies.Answer.TheVariants as answer
use Rattle.request_model.specs.declared.replies.Refusal.TheVariants as refusal
use Rattle.publication_index.specs.Kept.{series_of}
use Rattle.track_model.specs.{Outcomes.{tells, refuses}, Replies.reply_of, Tracks.{Track, IsSameButTables, base_of}}
use Rattle.track_model.specs.Publishing.{IsPublished, publish, SegmentComesTo}
use Rattle.machine_state.{specs.Made.{publication_from, IsMadeFrom}, proofs.Told.unknown}
use Rattle.track_series.specs.{Publications.{IsAdded, passed}, Snapshots.{IsSnapshot, IsTakenAt}, declared.publishing.Published.Published}
use Rattle.track_series.specs.declared.publishing.Published.TheVariants as published
use Rattle.track_series.specs.declared.snapshot.Snapshot.{Snapshot}
use Rattle.track_series.proofs.Segmenting.{same-tables, taken-tables, taken-history, not-stale, ok-step, full-same, full-step, series-is, made-from, comes, up-to}
use Rattle.track_series.proofs.segments.segment.Goals as goal
use Rattle.track_series.proofs.segments.segment.Goals.{After-segmented-answer}

pub returns-in_err-snapshot-clause-left : goal.returns-in_err-snapshot-clause-left
returns-in_err-snapshot-clause-left g c =
    let s : Series = record { test = c.args.test.now; metric = c.args.metric.now } in
    any-err c.from_residual.result (subst (IsSameButTables c.args.track.now) (sym c.in_err-snapshot.ensures.same) (same-tables c.args.track.now s))

pub returns-in_default-clause-step : goal.returns-in_default-clause-step
returns-in_default-clause-step g c =
    let t : Track = c.args.track.now in
    let h : List Entry = entries_of t.history in
    let s : Series = record { test = c.args.test.now; metric = c.args.metric.now } in
    let none : is_known s h ≡ _ = subst (λ (o : Option Snapshot). IsSnapshot t s o) c.in_default.is c.in_ok-snapshot.ensures.snapshot in
    let entries-are : entries_of c.take_snapshot.new.track.history ≡ h = ap (λ (u : Track). entries_of u.history) c.in_ok-snapshot.ensures.taken ∙ ap entries_of (taken-history t s) in (
      refuses refusal.UnknownSeries,
      unknown (IsPublished h (base_of t s) s) (is_known s h) none,
      record {
        track = c.in_ok-snapshot.ensures.taken;
        told = c.told.ensures ∙ ap (λ (g : List Entry). reply_of g (refuses refusal.UnknownSeries)) entries-are;
      },
    )

pub returns-in_err-made-clause-left : goal.returns-in_err-made-clause-left
returns-in_err-made-clause-left g c =
    let s : Series = record { test = c.args.test.now; metric = c.args.metric.now } in
    any-err c.from_residual-in_err-made.result (subst (IsSameButTables c.args.track.now) (sym c.in_ok-snapshot.ensures.taken) (taken-tables c.args.track.now s))

module _ (g : _) (c : After-segmented-answer g) where
  abbrev t : Track
  t = c.args.track.now

  abbrev s : Series
  s = record { test = c.args.test.now; metric = c.args.metric.now }

  taken : IsTakenAt t s c.in-Some.snapshot
  taken = subst (λ (o : Option Snapshot). IsSnapshot t s o) c.in-Some.is c.in_ok-snapshot.ensures.snapshot

  entries-are : entries_of c.take_snapshot.new.track.history ≡ entries_of t.history
  entries-are = ap (λ (u : Track). entries_of u.history) c.in_ok-snapshot.ensures.taken ∙ ap entries_of (taken-history t s)

  legal : Legal (entries_of t.history)
  legal = subst Legal entries-are c.history_law.ensures.legal

  made : IsMadeFrom (entries_of t.history) c.in_ok-made.made.done
  made = made-from t s c.in-Some.snapshot c.in_ok-made.made taken c.in_ok-made.ensures.made c.publication_law.ensures.last_stands legal

  same-series : series_of c.in_ok-made.made.done ≡ s
  same-series = series-is t s c.in-Some.snapshot c.in_ok-made.made taken c.in_ok-made.ensures.made

  -- what was put, on the history as it was
  put-as : (p q : Published) (new : Track) → p ≡ q → IsAdded (passed (entries_of c.take_snapshot.new.track.history) c.in_ok-made.made.done) c.take_snapshot.new.track c.args.author c.in_ok-made.made.done p new
      → IsAdded (passed (entries_of t.history) c.in_ok-made.made.done) c.take_snapshot.new.track c.args.author c.in_ok-made.made.done q new
  put-as p q new is put =
      subst (λ (r : Published). IsAdded (passed (entries_of t.history) c.in_ok-made.made.done) c.take_snapshot.new.track c.args.author c.in_ok-made.made.done r new) is
      (subst (λ (h : List Entry). IsAdded (passed h c.in_ok-made.made.done) c.take_snapshot.new.track c.args.author c.in_ok-made.made.done p new) entries-are put)

  comes-to : SegmentComesTo (entries_of t.history) (base_of t s) s (publish (entries_of t.history) (publication_from c.in_ok-made.made.done) c.segmented-answer.result)
  comes-to = comes t s c.in-Some.snapshot c.in_ok-made.made taken c.in_ok-made.ensures.made c.segmented-answer.result c.segmented-answer.ensures

pub put-requires-clause-made : goal.put-requires-clause-made
put-requires-clause-made g c =
    let k = (goal.at.put-requires-clause-made g c).After-segmented-answer in
    subst (λ (h : List Entry). IsMadeFrom h c.in_ok-made.made.done) (sym (entries-are g k)) (made g k)

pub put-requires-clause-latest : goal.put-requires-clause-latest
put-requires-clause-latest g c =
    let k = (goal.at.put-requires-clause-latest g c).After-segmented-answer in
    let h : List Entry = entries_of c.take_snapshot.new.track.history in
    let u : Series = series_of c.in_ok-made.made.done in
    let version = c.in_ok-made.ensures.made.version ∙ (taken g k).version ∙ sym (ap length (entries-are g k)) in
    up-to c.publication_law.ensures.last_stands h u c.in_ok-made.made.done.version c.history_law.ensures.legal version (last_publication u h) refl

pub returns-in_err-step-clause-left : goal.returns-in_err-step-clause-left
returns-in_err-step-clause-left g c =
    let s : Series = record { test = c.args.test.now; metric = c.args.metric.now } in
    any-err c.from_residual-in_err-step.result
    (subst (IsSameButTables c.args.track.now) (sym (c.in_err-step.ensures.same ∙ c.in_ok-snapshot.ensures.taken)) (taken-tables c.args.track.now s))

pub unreachable-requires : goal.unreachable-requires
unreachable-requires g c =
    let h : List Entry = entries_of c.take_snapshot.new.track.history in
    not-stale (passed h c.in_ok-made.made.done) c.take_snapshot.new.track c.args.author c.in_ok-made.made.done c.in-Stale.field-0 c.put.new.track
    (subst (λ (p : Published). IsAdded (passed h c.in_ok-made.made.done) c.take_snapshot.new.track c.args.author c.in_ok-made.made.done p c.put.new.track) c.in-Stale.is c.in_ok-step.ensures.put)

pub returns-in-Ok-clause-step : goal.returns-in-Ok-clause-step
returns-in-Ok-clause-step g c =
    let k = (goal.at.returns-in-Ok-clause-step g c).After-segmented-answer in
    let t : Track = c.args.track.now in
    let done = c.in_ok-made.made.done in
    let put = put-as g k c.in_ok-step.field-0 (published.Ok c.in-Ok.step) c.put.new.track c.in-Ok.is c.in_ok-step.ensures.put in (
      publish (entries_of t.history) (publication_from done) c.segmented-answer.result,
      comes-to g k,
      ok-step t (s g k) c.args.author done (same-series g k) c.take_snapshot.new.track c.put.new.track c.in_ok-snapshot.ensures.taken c.segmented-answer.result _ c.in-Ok.step (passed (entries_of t.history) done) put refl,
    )

pub returns-in-Full-clause-step : goal.returns-in-Full-clause-step
returns-in-Full-clause-step g c =
    let k = (goal.at.returns-in-Full-clause-step g c).After-segmented-answer in
    let t : Track = c.args.track.now in
    let done = c.in_ok-made.made.done in
    let l : Option Limit = passed (entries_of t.history) done in
    let put = put-as g k c.in_ok-step.field-0 (published.Full c.in-Full.limit) c.put.new.track c.in-Full.is c.in_ok-step.ensures.put in
    let new_is : c.put.new.track ≡ c.take_snapshot.new.track =
    full-same t (s g k) c.args.author done (same-series g k) c.take_snapshot.new.track c.put.new.track c.in_ok-snapshot.ensures.taken c.segmented-answer.result c.told-in-Full.result c.in-Full.limit l put in (
      publish (entries_of t.history) (publication_from done) c.segmented-answer.result,
      comes-to g k,
      full-step t (s g k) c.args.author done (same-series g k) c.take_snapshot.new.track c.put.new.track c.in_ok-snapshot.ensures.taken c.segmented-answer.result c.told-in-Full.result c.in-Full.limit l put
          (c.told-in-Full.ensures ∙ ap (λ (u : Track). reply_of (entries_of u.history) (tells (answer.Refused (refusal.Full c.in-Full.limit)))) new_is),
    )
