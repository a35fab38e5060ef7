use Rattle.history_model.{proofs.Chosen.entries-push, specs.declared.entries.Author.TheVariants.Recompute, specs.declared.entries.Entry.Entry}
use Rattle.std.proofs.Common.{◌≡◌, inl, inr, ℕ, List, length, sym, ap, ap₂, subst, ◌∙◌, Option, Some}
use Rattle.segment_cost.specs.declared.done.Done.{Done}
use Rattle.history_model.specs.{Allowed.{KeepsLimits, Legal}, Entries.entries_of, Runs.Series}
use Rattle.publication_index.specs.Kept.{series_of}
use Rattle.track_model.specs.Tracks.{Track}
use Rattle.track_room.{specs.Snapshot.Snapshot, proofs.Segmenting.{made-from, series-is}, specs.TrackStateTaking.TakesStale}
use Rattle.machine_state.specs.Made.{IsMadeFrom, entry_of}
use Rattle.track_room.{specs.Work.{IsUntaken, bare, history_of}, proofs.Snapped.{bare-taken, entries-taken}}
use Rattle.track_room.proofs.Untaken.{published-untaken, stale-untaken, untaken-stays}
use Rattle.touch_model.specs.Stale.{is_stale}
use Rattle.recompute_workers.{specs.Quiet.IsQuiet, proofs.Growing.adds-from, proofs.Handing.{adds-one, full-quiet, ok-quiet, outcome}}
use Rattle.recompute_workers.proofs.last.recompute_series.Goals as goal
use Rattle.recompute_workers.proofs.last.recompute_series.Goals.{In_ok-made}

abbrev pair : List ℕ → List ℕ → Series
pair test metric = record { test = test; metric = metric }

pub returns-in_err-snapshot-clause-added : goal.returns-in_err-snapshot-clause-added
returns-in_err-snapshot-clause-added c = inl (ap bare c.in_err-snapshot.ensures.same.track)

pub returns-in_default-clause-quiet : goal.returns-in_default-clause-quiet
returns-in_default-clause-quiet c =
    let s_is : pair c.test.result.now c.metric.result.now ≡ c.args.name.now = ap₂ pair c.test.ensures c.metric.ensures in
    let fresh = subst (λ (o : Option Snapshot). TakesStale c.args.work.now (pair c.test.result.now c.metric.result.now) o c.stale_snapshot.new.self) c.in_default.is c.in_ok-snapshot.ensures.taken in
    inl (ap (λ (t : Track). is_stale (entries_of t.history) c.args.name.now) fresh.1.track
    ∙ ap (λ (s : Series). is_stale (history_of c.args.work.now) s) (sym s_is) ∙ fresh.0)

module _ (c : In_ok-made) where
  abbrev t : Track
  t = c.args.work.now.track

  abbrev mid : Track
  mid = c.stale_snapshot.new.self.track

  abbrev s : Series
  s = pair c.test.result.now c.metric.result.now

  found : TakesStale c.args.work.now (pair c.test.result.now c.metric.result.now) (Some c.in-Some.snapshot) c.stale_snapshot.new.self
  found = subst (λ (o : Option Snapshot). TakesStale c.args.work.now s o c.stale_snapshot.new.self) c.in-Some.is c.in_ok-snapshot.ensures.taken

  entries-are : entries_of c.stale_snapshot.new.self.track.history ≡ entries_of c.args.work.now.track.history
  entries-are = entries-taken t s mid found.2.track

  legal : Legal (entries_of c.stale_snapshot.new.self.track.history)
  legal = subst (λ (u : Track). Legal (entries_of u.history)) c.track.ensures c.history_law.ensures.legal

  made : IsMadeFrom (entries_of c.stale_snapshot.new.self.track.history) c.in_ok-made.made.done
  made =
      subst (λ (h : List Entry). IsMadeFrom h c.in_ok-made.made.done) (sym entries-are)
      (made-from t s c.in-Some.snapshot c.in_ok-made.made found.1 c.in_ok-made.ensures c.publication_law.ensures.last_stands (subst Legal entries-are legal))

  now : c.in_ok-made.made.done.version ≡ length (entries_of c.stale_snapshot.new.self.track.history)
  now = c.in_ok-made.ensures.version ∙ found.1.version ∙ ap length (sym entries-are)

pub publish-requires-clause-made : goal.publish-requires-clause-made
publish-requires-clause-made c = made ((goal.at.publish-requires-clause-made c).In_ok-made)

pub returns-in_err-publish-clause-added : goal.returns-in_err-publish-clause-added
returns-in_err-publish-clause-added c =
    let k = (goal.at.returns-in_err-publish-clause-added c).In_ok-made in
    inl (ap bare c.in_err-publish.ensures.same.track ∙ bare-taken (t k) (s k) (mid k) (found k).2.track)

abbrev mid-free : (c : In_ok-made) → IsUntaken c.args.work.now → IsUntaken c.stale_snapshot.new.self
mid-free c free = stale-untaken c.args.work.now (s c) _ c.stale_snapshot.new.self c.in_ok-snapshot.ensures.taken free

pub returns-in_err-publish-clause-free : goal.returns-in_err-publish-clause-free
returns-in_err-publish-clause-free c free =
    let k = (goal.at.returns-in_err-publish-clause-free c).In_ok-made in
    untaken-stays c.stale_snapshot.new.self c.publish.new.self c.in_err-publish.ensures.same.claims c.in_err-publish.ensures.same.jobs (mid-free k free)

pub returns-clause-free : goal.returns-clause-free
returns-clause-free c free =
    let k = (goal.at.returns-clause-free c).In_ok-made in
    published-untaken c.stale_snapshot.new.self (Recompute 1) c.in_ok-made.made.done c.in_ok-publish.field-0 c.publish.new.self c.in_ok-publish.ensures.published (mid-free k free)

pub returns-clause-added : goal.returns-clause-added
returns-clause-added c =
    let k = (goal.at.returns-clause-added c).In_ok-made in
    let done : Done = c.in_ok-made.made.done in
    let new : Track = c.publish.new.self.track in
    adds-from (Recompute 1) (t k) (mid k) new (bare-taken (t k) (s k) (mid k) (found k).2.track)
    (adds-one (mid k) (Recompute 1) done new (outcome c.publication_law.ensures.last_stands (mid k) (Recompute 1) done c.in_ok-publish.field-0 new (legal k) (now k) c.in_ok-publish.ensures.published.track))

pub returns-clause-quiet : goal.returns-clause-quiet
returns-clause-quiet c =
    let k = (goal.at.returns-clause-quiet c).In_ok-made in
    let old : Track = c.stale_snapshot.new.self.track in
    let h : List Entry = entries_of old.history in
    let done : Done = c.in_ok-made.made.done in
    let new : Track = c.publish.new.self.track in
    let s_is : (s k) ≡ c.args.name.now = ap₂ pair c.test.ensures c.metric.ensures in
    let own : series_of done ≡ s k = series-is (t k) (s k) c.in-Some.snapshot c.in_ok-made.made (found k).1 c.in_ok-made.ensures in
    let keeps = subst (λ (u : Track). KeepsLimits (entries_of u.history)) c.track.ensures c.history_law.ensures.limits in
    subst (λ (u : Series). IsQuiet (entries_of new.history) u) s_is
    (elim (outcome c.publication_law.ensures.last_stands old (Recompute 1) done c.in_ok-publish.field-0 new (legal k) (now k) c.in_ok-publish.ensures.published.track) [
      | inl is ↦
          subst (λ (x : List Entry). IsQuiet x (s k))
          (sym (ap (λ (u : Track). entries_of u.history) is ∙ entries-push old.history (record { author = Recompute 1; entry = entry_of done })))
          (ok-quiet c.publication_law.ensures.last c.touch_law.ensures.last c.touch_law.ensures.past h (s k) done own (now k))
      | inr full ↦
          subst (λ (u : Track). IsQuiet (entries_of u.history) (s k)) (sym full.2)
          (full-quiet c.publication_law.ensures.cuts h keeps (t k) (sym (entries-are k)) (s k) c.in-Some.snapshot (found k).1 c.in_ok-made.made c.in_ok-made.ensures full.0 full.1)
    ])
