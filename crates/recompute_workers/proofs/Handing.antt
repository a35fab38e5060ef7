-- A series is quiet once it was published, or refused by a limit.
use Rattle.std.proofs.Common.{◌≡◌, ℕ, ◌+◌, ◌≤◌, ◌<◌, Bool, true, false, cond, ◌&&◌, List, [], ◌∷◌, ◌++◌, length, refl, ap, ◌∙◌, ◌⊎◌, inl, inr, Option, Some, None, arith}
use Rattle.std.{specs.Prelude.{bytes_eq, nat_lt}, proofs.lemmas.Bool.Decides.nat_tests, proofs.lemmas.List.length-append, proofs.lemmas.Grind.common_steps}
use Rattle.std.proofs.lemmas.Slice.Eq.{bytes_eq-Decides}
use Rattle.metric_table.specs.{Limits.most, declared.limits.Limit.Limit}
use Rattle.metric_table.specs.declared.limits.Limit.TheVariants as limit
use Rattle.segment_cost.specs.declared.done.Done.{Done}
use Rattle.history_model.specs.declared.{entries.Author.Author, entries.Entry.Entry, publication.Publication.Publication}
use Rattle.history_model.specs.{Allowed.{KeepsLimits, Legal, count_of, first_passed}, Entries.entries_of, Laws.{CutsGrow, LastStands, PublicationIsLast}}
use Rattle.history_model.specs.{Penalties.{penalty_of, length_of}, Positions.positions}
use Rattle.track_model.specs.Tracks.{Track, with_entry}
use Rattle.history_model.specs.{Publications.{AreBest, cut_count, last_publication}, Runs.{Series, is_known}}
use Rattle.publication_index.specs.Kept.{series_of}
use Rattle.touch_model.specs.{Laws.{TouchesArePast, TouchesGrow}, Stale.is_behind, Touches.last_touch}
use Rattle.track_room.specs.{Publications.{IsAdded, IsPublished, IsTaken, later, passed}, Snapshots.{IsRedone, IsTakenAt}, Published.Published, Redone.Redone}
use Rattle.track_room.specs.{Snapshot.Snapshot, Work.bare}
use Rattle.machine_state.specs.Made.{entry_of, publication_from}
use Rattle.recompute_workers.specs.{Quiet.IsQuiet, Recomputing.AddsOne}

-- ---- what was told
added-of : (l : Option Limit) (old : Track) (author : Author) (done : Done) (told : Published) (new : Track) → IsAdded l old author done told new
    → (bare new ≡ bare (with_entry author old (entry_of done))) ⊎ ((limit : Limit) × (l ≡ Some limit) × (bare new ≡ bare old))
added-of l old author done told new is = grind (arith, common_steps)

taken-of : (o : Option ℕ) (old : Track) (author : Author) (done : Done) (told : Published) (new : Track) → o ≡ None → IsTaken o old author done told new
    → IsAdded (passed (entries_of old.history) done) old author done told new
taken-of o old author done told new none is = grind (arith, common_steps)

-- no version after the present one was published
up-to-date : LastStands → (h : List Entry) (s : Series) (version : ℕ) → Legal h → version ≡ length h → (o : Option Publication) → last_publication s h ≡ o → later version o ≡ None
up-to-date stands h s version legal now None last = refl
up-to-date stands h s version legal now (Some p) last =
    let past = (stands h s p legal last).1.past in
    let no : nat_lt version p.version ≡ false = not-less version p.version (omega (arith, past, now)) in
    ap (λ b. cond b (Some p.version) None) no
  where
    not-less : (n m : ℕ) → m ≤ n → nat_lt n m ≡ false
    not-less n m le = grind (arith, nat_tests)

is-above : (n m : ℕ) → nat_lt n m ≡ true → n < m
is-above n m is = grind (arith, nat_tests)

-- either it was added, or a limit forbids it
pub outcome : LastStands → (old : Track) (author : Author) (done : Done) (told : Published) (new : Track) → Legal (entries_of old.history) → done.version ≡ length (entries_of old.history)
    → IsPublished old author done told new → (bare new ≡ bare (with_entry author old (entry_of done))) ⊎ ((limit : Limit) × (passed (entries_of old.history) done ≡ Some limit) × (bare new ≡ bare old))
outcome stands old author done told new legal now is = grind (arith, common_steps, added-of, done, taken-of, done.version, up-to-date)

pub adds-one : (old : Track) (author : Author) (done : Done) (new : Track) → (bare new ≡ bare (with_entry author old (entry_of done))) ⊎ ((limit : Limit) × (passed (entries_of old.history) done ≡ Some limit) × (bare new ≡ bare old))
    → AddsOne author old new
adds-one old author done new x4 = grind (arith, common_steps)

-- ---- a limit that a history passes with the publication
which-limit : (h : List Entry) (e : Entry) (l : Limit) → first_passed (limit.Steps ∷ limit.Cuts ∷ []) h e ≡ Some l
    → (nat_lt (most limit.Steps) (count_of limit.Steps (h ++ e ∷ [])) ≡ true) ⊎ (nat_lt (most limit.Cuts) (count_of limit.Cuts (h ++ e ∷ [])) ≡ true)
which-limit h e l is = grind (arith, common_steps)

module _ (cuts : CutsGrow) (h : List Entry) (keeps : KeepsLimits h) (t : Track) (same : entries_of t.history ≡ h) (s : Series) (x : Snapshot) (taken : IsTakenAt t s x) (made : Redone) (is : IsRedone x made) where
  abbrev done : Done
  done = made.done

  are-best : AreBest (positions h s) (penalty_of s.metric h) (length_of s.metric h) made.done.cert.cuts made.done.cert.total
  are-best = grind (arith, common_steps)

  pub full-quiet : (l : Limit) → passed h made.done ≡ Some l → IsQuiet h s
  full-quiet l full = elim (which-limit h (entry_of made.done) l full) [
    | inl steps ↦
        let above : most limit.Steps < length (h ++ entry_of done ∷ []) = is-above (most limit.Steps) (length (h ++ entry_of done ∷ [])) steps in
        let size = length-append h (entry_of done ∷ []) in
        let few : length h ≤ most limit.Steps = keeps limit.Steps in
        inr (inl (omega (arith, above, size, few)))
    | inr many ↦
        let above : most limit.Cuts < cut_count (h ++ entry_of done ∷ []) = is-above (most limit.Cuts) (cut_count (h ++ entry_of done ∷ [])) many in
        let more = cuts h (entry_of done) in
        inr (inr (record { cuts = done.cert.cuts; total = done.cert.total; best = are-best; passes = omega (arith, above, more) }))
  ]

-- ---- a publication of the present version
eq-bytes : (xs : List ℕ) → bytes_eq xs xs ≡ true
eq-bytes xs = (bytes_eq-Decides xs xs).1 refl

its-own : (done : Done) (s : Series) → series_of done ≡ s → (bytes_eq done.test s.test && bytes_eq done.metric s.metric) ≡ true
its-own done s is = grind (arith, common_steps, bytes_eq, done.test, done.metric, eq-bytes)

module _ (last : PublicationIsLast) (grow : TouchesGrow) (past : TouchesArePast) (h : List Entry) (s : Series) (done : Done) (is : series_of done ≡ s) (now : done.version ≡ length h) where
  pub ok-quiet : IsQuiet (h ++ entry_of done ∷ []) s
  ok-quiet =
      let h' : List Entry = h ++ entry_of done ∷ [] in
      let last_is : last_publication s h' ≡ Some (publication_from done) =
      last h (entry_of done) s (publication_from done) (ap (λ b. cond b (Some (publication_from done)) None) (its-own done s is)) in
      let le = past h s in
      let fresh : is_behind (last_touch h' s) (last_publication s h') ≡ false = grind (arith, common_steps) in
      inl (ap (λ b. is_known s h' && b) fresh ∙ and-false (is_known s h'))
    where
      and-false : (b : Bool) → (b && false) ≡ false
      and-false true = refl
      and-false false = refl
