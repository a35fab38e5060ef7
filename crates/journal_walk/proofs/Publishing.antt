-- What became of a segmentation that was published for the next entry.
use Rattle.std.proofs.Common.{◌≡◌, ℕ, ◌+◌, ◌<◌, ◌≤◌, Bool, cond, nat_lt, List, [], ◌∷◌, ◌++◌, length, take, inl, inr, refl, sym, ap, ◌∙◌, subst, arith, Option, Some, None}
use Rattle.std.proofs.lemmas.{Bool.cases_Bool, Bool.Decides.nat_tests, Grind.common_steps}
use Rattle.metric_table.specs.{Limits.most, declared.limits.Limit.Limit, declared.limits.Limit.TheVariants.{Cuts, Steps}}
use Rattle.segment_cost.specs.declared.done.Done.{Done}
use Rattle.history_model.specs.declared.entries.{Author.TheVariants.Kept, Entry.Entry, Entry.TheVariants.Publish}
use Rattle.history_model.specs.{declared.publication.Publication.Publication, Allowed.{Allowed, count_of, first_passed}, Entries.entries_of}
use Rattle.history_model.specs.Publications.{last_publication}
use Rattle.publication_index.specs.Kept.{series_of}
use Rattle.request_model.specs.declared.replies.Reply.{Reply}
use Rattle.track_model.specs.{Outcomes.Outcome, Publishing.{SegmentComesFrom, later}, Tracks.{IsFinishStep, Track}}
use Rattle.machine_state.specs.Made.{entry_of, publication_from}
use Rattle.track_step.specs.Publications.{IsAdded, IsPublished, IsTaken, passed}
use Rattle.track_step.specs.Published.TheVariants as published
use Rattle.journal_walk.specs.Steps.{Publishes}

-- ---- lists with one item more

-- ---- what isn't allowed
over-limit : (limits : List Limit) (h : List Entry) (e : Entry) (limit : Limit) → first_passed limits h e ≡ Some limit → most limit < count_of limit (h ++ e ∷ [])
over-limit [] h e limit is = absurd (cc)
over-limit (l ∷ limits) h e limit is = elim (cases_Bool (nat_lt (most l) (count_of l (h ++ e ∷ [])))) [
  | inl hit ↦
      let same : l ≡ limit = cc in
      let over : most l < count_of l (h ++ e ∷ []) = grind (arith, nat_tests) in
      subst (λ (m : Limit). most m < count_of m (h ++ e ∷ [])) same over
  | inr miss ↦ over-limit limits h e limit (sym (ap (λ (b : Bool). cond b (Some l) (first_passed limits h e)) miss) ∙ is)
]

module _ (old : Track) (done : Done) (new : Track) where
  abbrev p : Publication
  p = publication_from done

  abbrev h : List Entry
  h = entries_of old.history

  -- it was added
  pub record Added : Type 0 where
    pub machine : new.machine ≡ old.machine
    pub history : new.history ≡ old.history ++ record { author = Kept; entry = Publish (publication_from done) } ∷ []

  added-of : (step : ℕ) (l : Option Limit) → IsAdded l old Kept done (published.Ok step) new → Added
  added-of step l put = grind (arith, common_steps)

  pub is-added : (step : ℕ) → IsPublished old Kept done (published.Ok step) new → Added
  is-added step is = grind (arith, common_steps)

  -- the reply tells it
  pub publishes : (reply : Reply) (o : Outcome) → Added
      → SegmentComesFrom (take done.version (entries_of old.history)) done.base (entries_of old.history) (series_of done) o
      → IsFinishStep old Kept (series_of done) o new reply → Publishes old (publication_from done) new reply
  publishes reply o added comes step = grind (arith, common_steps)

  -- ---- it wasn't
  abbrev Refused : Type 0
  Refused = (¬ Allowed (entries_of old.history) (Publish (publication_from done))) × (new ≡ old)

  full-of : (limit : Limit) (l : Option Limit) → passed (entries_of old.history) done ≡ l → IsAdded l old Kept done (published.Full limit) new → Refused
  full-of limit None is put = absurd (let no : published.Full limit ≡ published.Ok (length (entries_of old.history) + 1) = put.0 in cc)
  full-of limit (Some passed_limit) is put = (
    λ allowed. (
        let over : most passed_limit < count_of passed_limit (entries_of old.history ++ entry_of done ∷ []) = over-limit (Steps ∷ Cuts ∷ []) (entries_of old.history) (entry_of done) passed_limit is in
        let within : count_of passed_limit (entries_of old.history ++ entry_of done ∷ []) ≤ most passed_limit = allowed.1 passed_limit in
        absurd (omega (arith, over, within))
        ),
    put.1,
  )

  pub is-full : (limit : Limit) → IsPublished old Kept done (published.Full limit) new → Refused
  is-full limit is = of (later done.version (last_publication (series_of done) (entries_of old.history))) refl is
    where
      of : (l : Option ℕ) → later done.version (last_publication (series_of done) (entries_of old.history)) ≡ l → IsTaken l old Kept done (published.Full limit) new → Refused
      of (Some w) at put = absurd (let no : published.Full limit ≡ published.Stale w = put.0 in cc)
      of None at put = full-of limit (passed (entries_of old.history) done) refl put

  pub is-stale : (w : ℕ) → IsPublished old Kept done (published.Stale w) new → Refused
  is-stale w is = grind (arith, common_steps)
