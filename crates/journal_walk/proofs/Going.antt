-- A walk that goes on with its next entry, or is stuck.
use Rattle.std.proofs.Common.{◌≡◌, ℕ, Bool, true, false, List, length, inl, inr, refl, sym, ap, ◌∙◌, subst, Option, Some, None, IfSome, IfNone, arith}
use Rattle.std.{specs.Prelude.{cond, is_some, slice_get}, specs.Slice.IsItemAt, proofs.lemmas.Bool.{cases_Bool, false≢true}, proofs.lemmas.Grind.common_steps}
use denote.Ref.{Bor}
use Rattle.std.proofs.lemmas.Option.{slice_get-get_or}
use Rattle.history_model.specs.declared.entries.{Author.TheVariants.Kept, Entry.Entry, Entry.TheVariants.Publish, Placed.Placed}
use Rattle.history_model.{specs.declared.publication.Publication.Publication, specs.Allowed.Allowed, specs.Entries.entries_of, proofs.Chosen.entries-push}
use Rattle.request_model.specs.declared.replies.Reply.{Reply}
use Rattle.track_model.specs.{Outcomes.Outcome, Tracks.{IsStep, Track, with_added, with_entry}}
use Rattle.track_step.specs.Replays.{IsReplayed}
use Rattle.journal_walk.specs.{Ahead.{AllMet, IsReady, KeepsAhead}, Steps.Publishes}
use Rattle.journal_walk.specs.{Walks.{GoesOn, IsAlong, IsPublishedNext, IsStuck, PublishesNothing, Walked}, declared.ahead.Ahead.Ahead}
use Rattle.journal_walk.proofs.{Adding.{grown, stays}, Along.{along-entries, coming-entry}}

abbrev pub walk : List Placed → Track → Walked
walk history track = record { history = history; track = track }

-- what was read of a list at a place
pub item-at : {X : Type 0} (xs : List X) (i k : ℕ) (x : Bor X) → i ≡ k → IsItemAt xs i (Some x) → slice_get xs k ≡ Some x.now
item-at xs i k x same item = ap (slice_get xs) (sym same) ∙ slice_get-get_or xs i x.now item.3.0 ∙ ap Some (sym item.1)

-- all needs up to now were met, and nothing else changed
pub record Met (history : List Placed) (now : Track) (a : Ahead) (self : Walked) : Type 0 where
  pub kept : KeepsAhead (entries_of history) (entries_of now.history) a
  pub met : AllMet (entries_of now.history) a
  pub is : walk history now ≡ self

-- all that was needed is there for a publication that comes next
pub ready : (history : List Placed) (track : Track) (a : Ahead) (self : Walked) (x : Placed) (p : Publication) → Met history track a self → IsAlong self
    → slice_get history (length track.history) ≡ Some x → x.entry ≡ Publish p → IsReady (entries_of history) (entries_of track.history) a p
ready history track a self x p met along at told = grind (arith, common_steps, along-entries, walk, coming-entry)

-- what a reply that is there keeps
pub if-there : (P : Reply → Type 0) (o : Option Reply) → IfSome o P → is_some o ≡ true → (reply : Reply) × P reply
if-there P o holds some = grind (arith, common_steps)

pub if-more : (P Q : Reply → Type 0) (o : Option Reply) → IfSome o P → ((reply : Reply) → P reply → Q reply) → IfSome o Q
if-more P Q o holds more = grind (arith, common_steps)

pub none-more : (P Q : Type 0) (o : Option Reply) → IfNone o P → (P → Q) → IfNone o Q
none-more P Q o holds more = grind (arith, common_steps)

module _ (history : List Placed) (old new : Track) (x : Placed) (at : slice_get history (length old.history) ≡ Some x) where
  goes-published : (p : Publication) → x.entry ≡ Publish p → (reply : Reply) → Publishes old p new reply → GoesOn (walk history old) (walk history new)
  goes-published p told reply is = grind (arith, common_steps)

  pub published-next : (p : Publication) → x.entry ≡ Publish p → (reply : Reply) → Publishes old p new reply → IsPublishedNext (walk history old) (walk history new) reply
  unfolding goes-published
  published-next p told reply is = record {
    goes = goes-published p told reply is;
    publication = p;
    is = told;
    outcome = is.outcome;
    comes = is.comes;
    adds = is.adds;
    told = is.told;
  }

  refused : (p : Publication) → x.entry ≡ Publish p → ¬ Allowed (entries_of old.history) (Publish p) → ¬ Allowed (entries_of old.history) x.entry
  refused p told never = subst (λ (e : Entry). ¬ Allowed (entries_of old.history) e) (sym told) never

  pub nothing-published : (p : Publication) → x.entry ≡ Publish p → ¬ Allowed (entries_of old.history) (Publish p) → PublishesNothing (walk history old)
  nothing-published p told never = inr (x, at, inr (refused p told never))

  pub goes-replayed : (added : Bool) → IsReplayed old x.entry added new → added ≡ true → GoesOn (walk history old) (walk history new)
  goes-replayed added is hit = grind (arith, common_steps)

  pub stuck-replayed : (added : Bool) → IsReplayed old x.entry added new → added ≡ false → IsStuck (walk history old)
  stuck-replayed added is miss = inr (x, at, λ allowed. false≢true (sym miss ∙ is.allowed.1 allowed))

-- nothing changed where nothing was added
pub same-replayed : (old new : Track) (e : Entry) (added : Bool) → IsReplayed old e added new → added ≡ false → new ≡ old
same-replayed old new e added is miss = is.track ∙ ap (λ (b : Bool). cond b (with_entry Kept old e) old) miss

-- what is kept behind an entry that was added, or wasn't
pub keeps-replayed : (es : List Entry) (a : Ahead) (old new : Track) (e : Entry) (added : Bool) → KeepsAhead es (entries_of old.history) a → AllMet (entries_of old.history) a
    → IsReplayed old e added new → KeepsAhead es (entries_of new.history) a
keeps-replayed es a old new e added kept met is = elim (cases_Bool added) [
  | inl hit ↦
      let now : new ≡ with_entry Kept old e = is.track ∙ ap (λ (b : Bool). cond b (with_entry Kept old e) old) hit in
      grown es (entries_of old.history) (entries_of new.history) e a kept met
      (ap (λ (t : Track). entries_of t.history) now ∙ entries-push old.history (record { author = Kept; entry = e }))
  | inr miss ↦ stays es (entries_of old.history) (entries_of new.history) a kept (ap (λ (t : Track). entries_of t.history) (same-replayed old new e added is miss))
]

pub keeps-answered : (es : List Entry) (a : Ahead) (old new : Track) (o : Outcome) (reply : Reply) → KeepsAhead es (entries_of old.history) a → AllMet (entries_of old.history) a
    → IsStep old Kept o new reply → KeepsAhead es (entries_of new.history) a
keeps-answered es a old new o reply kept met is = of o.adds refl
  where
    of : (e : Option Entry) → o.adds ≡ e → KeepsAhead es (entries_of new.history) a
    of None adds =
        let now : new ≡ old = is.track ∙ ap (with_added Kept old) adds in
        stays es (entries_of old.history) (entries_of new.history) a kept (ap (λ (t : Track). entries_of t.history) now)
    of (Some e) adds =
        let now : new ≡ with_entry Kept old e = is.track ∙ ap (with_added Kept old) adds in
        grown es (entries_of old.history) (entries_of new.history) e a kept met
        (ap (λ (t : Track). entries_of t.history) now ∙ entries-push old.history (record { author = Kept; entry = e }))
