-- What is told of the last publication.
use Rattle.std.proofs.Common.{◌≡◌, ℕ, List, map, ap, subst}
use Rattle.segment_model.specs.Segments.{Position}
use Rattle.segment_cost.specs.declared.{cert.Cert.Cert, done.Done.Done}
use Rattle.history_model.specs.{declared.entries.Entry.Entry, declared.publication.Publication.Publication, Entries.entries_of, Publications.last_publication}
use Rattle.history_model.specs.Runs.{Series, is_known}
use Rattle.change_list.specs.{Changes.AreChanges, declared.change.Change.Change}
use Rattle.request_model.specs.declared.{changes.NamedChange.NamedChange, replies.Answer.Answer, replies.Refusal.Refusal, replies.Reply.Reply}
use Rattle.request_model.specs.declared.replies.Answer.TheVariants as answer
use Rattle.publication_index.specs.Kept.{series_of}
use Rattle.track_model.specs.{Outcomes.{Outcome, refuses, tells}, Publishing.{named, OfKnown, OfPublished, TellsChanges, TellsCertificate}, Replies.reply_of}
use Rattle.track_model.specs.Tracks.{Track, IsTold}
use Rattle.machine_state.{specs.Made.{publication_from, IsMadeFrom}, specs.State.{HasNone, IsLast}, proofs.Published.{tells-last, tells-none}}
use Rattle.machine_state.proofs.{Publishing.made-stands, Told.only-told}

pub certified : (h : List Entry) (s : Series) (done : Done) → IsMadeFrom h done → series_of done ≡ s → (cert : Cert) → cert ≡ done.cert
    → TellsCertificate h s (publication_from done) (tells (answer.Verified done.version cert))
certified h s done made same cert is =
    let P : Series → Type 0 = λ u. TellsCertificate h u (publication_from done) (tells (answer.Verified done.version cert)) in
    subst P same (done.cert, made-stands h done made, ap (λ (x : Cert). tells (answer.Verified done.version x)) is)

-- the changes of a publication, as they are told of its series
pub changed : (h : List Entry) (s : Series) (done : Done) (items : List Change) (told : List NamedChange) → IsMadeFrom h done → series_of done ≡ s
    → AreChanges done.points done.metric done.cert.cuts items → told ≡ map (named h) items
    → TellsChanges h s (publication_from done) (tells (answer.Changes done.version s.metric told))
changed h s done items told made same are is =
    let P : Series → Type 0 = λ u. TellsChanges h u (publication_from done) (tells (answer.Changes done.version u.metric told)) in
    subst P same (
      items,
      subst (λ (ps : List Position). AreChanges ps done.metric done.cert.cuts items) made.points are,
      ap (λ (ls : List NamedChange). tells (answer.Changes done.version done.metric ls)) is,
    )

-- a form about a series' last publication tells this of it, or refuses
module _ (t : Track) (test metric : List ℕ) (Tells : List Entry → Series → Publication → Outcome → Type 0) where
  abbrev h : List Entry
  h = entries_of t.history

  abbrev s : Series
  s = record { test = test; metric = metric }

  abbrev Comes : Outcome → Type 0
  Comes = OfKnown (is_known s h) (OfPublished (last_publication s h) (Tells h s))

  pub refused : (why : Refusal) (reply : Reply) → HasNone h s why → reply ≡ reply_of h (refuses why) → (o : Outcome) × Comes o × IsTold t o reply
  refused why reply none told = only-told Comes t (answer.Refused why) reply (tells-none (Tells h s) h s why none) told

  pub told-last : (done : Done) (a : Answer) (reply : Reply) → IsLast h s done → Tells h s (publication_from done) (tells a) → reply ≡ reply_of h (tells a)
      → (o : Outcome) × Comes o × IsTold t o reply
  told-last done a reply last comes told = only-told Comes t a reply (tells-last (Tells h s) h s done (tells a) last comes) told
