-- What a segmentation of a version comes to on a longer history.
use Rattle.std.proofs.{Common.{◌≡◌, ℕ, ◌+◌, true, List, length, take, refl, sym, ap, subst, ◌∙◌, Option, Some, None}, lemmas.List.length-take-le}
use Rattle.metric_table.specs.declared.limits.Limit.{Limit}
use Rattle.segment_model.specs.Segments.{Position}
use Rattle.segment_cost.specs.{Certificate.StandsFor, declared.done.Done.Done}
use Rattle.history_model.specs.{declared.entries.Author.Author, declared.entries.Entry.Entry, declared.publication.Publication.Publication, Entries.entries_of}
use Rattle.history_model.specs.{Laws.KnownStays, Penalties.{penalty_of, length_of}, declared.setting.Setting.Setting, Positions.positions}
use Rattle.history_model.specs.{Publications.{IsBaseAt, last_publication}, Runs.{Series, is_known}}
use Rattle.publication_index.specs.Kept.{series_of}
use Rattle.request_model.specs.declared.replies.{Answer.Answer, Reply.Reply}
use Rattle.request_model.specs.declared.replies.Refusal.TheVariants as refusal
use Rattle.track_model.specs.Outcomes.{Outcome, added_unless, refuses}
use Rattle.track_model.specs.{Publishing.{IsPublishedFrom, OfLatest, SegmentComesFrom, publication, publish, redone_since, segmented}, Replies.reply_of}
use Rattle.track_model.specs.Tracks.{Track, IsFinishStep}
use Rattle.machine_state.{specs.Made.{IsMadeFrom, entry_of, publication_from}, proofs.Told.known}
use Rattle.track_series.specs.{Beside.reply_told, Publications.{IsAdded, IsPublished, IsTaken, later, passed}, declared.publishing.Published.Published}
use Rattle.track_series.specs.declared.publishing.Published.TheVariants as published
use Rattle.track_series.proofs.Segmenting.{not-stale}

module _ (stays : KnownStays) (old : Track) (author : Author) (done : Done) (made : IsMadeFrom (entries_of old.history) done) (new : Track) (reply : Reply) (told : Answer)
    (told_is : told ≡ segmented done.version done.base done.redone done.cert) where
  abbrev h : List Entry
  h = entries_of old.history

  abbrev v : List Entry
  v = take done.version (entries_of old.history)

  abbrev s : Series
  s = series_of done

  version-is : length (take done.version (entries_of old.history)) ≡ done.version
  version-is = length-take-le done.version (entries_of old.history) made.past

  -- what it comes to, where no later version was published
  published-of : IsPublishedFrom (take done.version (entries_of old.history)) done.base (entries_of old.history) (series_of done) (publish (entries_of old.history) (publication_from done) told)
  published-of =
      let stands : StandsFor (positions v s) (penalty_of done.metric v) (length_of done.metric v) done.cert =
      subst (λ (x : Setting). StandsFor (positions v s) x.penalty x.length done.cert) made.setting (subst (λ (ps : List Position). StandsFor ps done.cert.penalty done.cert.length done.cert) made.points made.stands) in
      let is : publication_from done ≡ publication s (length v) done.base done.cert = ap (λ (n : ℕ). publication s n done.base done.cert) (sym version-is) in
      let says : told ≡ segmented (length v) done.base (redone_since v done.base s) done.cert =
      told_is ∙ ap (λ (n : ℕ). segmented n done.base done.redone done.cert) (sym version-is) ∙ ap (λ (n : ℕ). segmented (length v) done.base n done.cert) made.redone in (
        done.cert,
        stands,
        subst (λ (p : Publication). IsBaseAt v p) is made.based,
        ap (λ (p : Publication). publish h p told) is ∙ ap (λ (a : Answer). publish h (publication s (length v) done.base done.cert) a) says,
      )

  -- any outcome
  comes : (l : Option ℕ) → later done.version (last_publication (series_of done) (entries_of old.history)) ≡ l → (o : Outcome)
      → OfLatest l (IsPublishedFrom (take done.version (entries_of old.history)) done.base (entries_of old.history) (series_of done)) o
      → SegmentComesFrom (take done.version (entries_of old.history)) done.base (entries_of old.history) (series_of done) o
  comes l is o latest =
      let now : is_known s h ≡ true = stays h s done.version made.known in
      let same : later (length v) (last_publication s h) ≡ l = ap (λ (n : ℕ). later n (last_publication s h)) version-is ∙ is in
      known (OfLatest (later (length v) (last_publication s h)) (IsPublishedFrom v done.base h s)) o (is_known s h) now
      (subst (λ (m : Option ℕ). OfLatest m (IsPublishedFrom v done.base h s) o) (sym same) latest)

  abbrev Ends : Type 0
  Ends =
      (o : Outcome) × SegmentComesFrom (take done.version (entries_of old.history)) done.base (entries_of old.history) (series_of done) o
      × IsFinishStep old author (series_of done) o new reply

  added-ok : (step : ℕ) (l : Option Limit) → IsAdded l old author done (published.Ok step) new → reply ≡ record { step = step; answer = told }
      → IsFinishStep old author (series_of done) (added_unless l (entry_of done) told) new reply
  added-ok step (Some limit) put is = absurd (let no : published.Ok step ≡ published.Full limit = put.0 in cc)
  added-ok step None put is =
      let same : published.Ok step ≡ published.Ok (length (entries_of old.history) + 1) = put.0 in
      record { track = put.1; told = is ∙ ap (λ (n : ℕ). let r : Reply = record { step = n; answer = told } in r) (cc) }

  added-full : (limit : Limit) (l : Option Limit) → IsAdded l old author done (published.Full limit) new → reply ≡ reply_of (entries_of new.history) (refuses (refusal.Full limit))
      → IsFinishStep old author (series_of done) (added_unless l (entry_of done) told) new reply
  added-full limit None put is = absurd (let no : published.Full limit ≡ published.Ok (length (entries_of old.history) + 1) = put.0 in cc)
  added-full limit (Some other) put is =
      let same : published.Full limit ≡ published.Full other = put.0 in
      record {
        track = put.1;
        told = is
            ∙ ap (λ (t : Track). reply_of (entries_of t.history) (refuses (refusal.Full limit))) put.1
            ∙ ap (λ (m : Limit). reply_of (entries_of old.history) (refuses (refusal.Full m))) (cc);
      }

  taken : (p : Published) (l : Option ℕ) → later done.version (last_publication (series_of done) (entries_of old.history)) ≡ l
      → IsTaken l old author done p new → reply ≡ reply_told (entries_of new.history) p told → Ends
  taken (published.Ok step) (Some w) is put says = absurd (let no : published.Ok step ≡ published.Stale w = put.0 in cc)
  taken (published.Full limit) (Some w) is put says = absurd (let no : published.Full limit ≡ published.Stale w = put.0 in cc)
  taken (published.Stale w) (Some x) is put says =
      let same : published.Stale w ≡ published.Stale x = put.0 in (
        refuses (refusal.Stale x),
        comes (Some x) is _ refl,
        record {
          track = put.1;
          told = says
              ∙ ap (λ (t : Track). reply_of (entries_of t.history) (refuses (refusal.Stale w))) put.1
              ∙ ap (λ (n : ℕ). reply_of (entries_of old.history) (refuses (refusal.Stale n))) (cc);
        },
      )
  taken (published.Ok step) None is put says =
      (publish (entries_of old.history) (publication_from done) told, comes None is _ published-of, added-ok step (passed (entries_of old.history) done) put says)
  taken (published.Full limit) None is put says =
      (publish (entries_of old.history) (publication_from done) told, comes None is _ published-of, added-full limit (passed (entries_of old.history) done) put says)
  taken (published.Stale w) None is put says = absurd (not-stale (passed (entries_of old.history) done) old author done w new put)

  pub ends : (p : Published) → IsPublished old author done p new → reply ≡ reply_told (entries_of new.history) p told → Ends
  ends p put says = taken p (later done.version (last_publication (series_of done) (entries_of old.history))) refl put says
