-- The machines of rows stay as a store keeps them.
use Rattle.std.specs.FinSet as set
use Rattle.history_model.specs.{SeriesOrder.series_cmp, declared.entries.Entry.Entry, declared.entries.Placed.Placed, Entries.entries_of}
use Rattle.std.proofs.Common.{◌≡◌, ℕ, ◌<◌, inl, inr, Bool, true, List, [], ◌∷◌, ◌++◌, length, map, None, refl, sym, ap, ap₂, subst, ◌∙◌, arith, length-append}
use Rattle.std.{specs.Prelude.{find, filter}, specs.List.AllByRecursion, proofs.lemmas.Bool.cases_Bool}
use Rattle.metric_table.specs.{Limits.most, declared.limits.Limit.TheVariants.Machines}
use Rattle.history_model.specs.declared.entries.Author.TheVariants as author
use Rattle.track_model.specs.Tracks.{Track, with_entry}
use Rattle.keep_rows.specs.{Machines.{is_track, changed}, Machines.AreDifferent, Kept.{is_kept, kept, kept_of, AreKept}, Loading.stored_track}
use Rattle.keep_rows.proofs.Among.{different_last, changed_names, changed_length}

pub all_join : {A : Type 0} (P : A → Type 0) (xs ys : List A) → AllByRecursion P xs → AllByRecursion P ys → AllByRecursion P (xs ++ ys)
all_join P [] ys one two = two
all_join P (x ∷ xs) ys one two = (one.0, all_join P xs ys one.1 two)

-- ---- a machine more
pub machine_more : (machine : List ℕ) (tracks : List Track) → find (is_track machine) tracks ≡ None → length tracks < most Machines → AreKept tracks
    → AreKept (tracks ++ stored_track machine ∷ [])
machine_more machine tracks none room are = record {
  kept = all_join (λ (t : Track). t ≡ kept_of t) tracks (stored_track machine ∷ []) are.kept (refl, tt);
  different = different_last (stored_track machine) tracks none are.different;
  few = omega (arith, room, length-append tracks (stored_track machine ∷ []));
}

-- ---- an entry more
kept_last : (h : List Placed) (e : Entry) → is_kept e ≡ true
    → map kept (filter is_kept (entries_of (h ++ kept e ∷ []))) ≡ map kept (filter is_kept (entries_of h)) ++ kept e ∷ []
kept_last [] e is = rw is refl
kept_last (p ∷ h) e is = elim (cases_Bool (is_kept p.entry)) [
  | inl hit ↦ rw hit (ap (λ ps. kept p.entry ∷ ps) (kept_last h e is))
  | inr past ↦ rw past (kept_last h e is)
]

pub entry_kept : (t : Track) (e : Entry) → is_kept e ≡ true → t ≡ kept_of t → with_entry author.Kept t e ≡ kept_of (with_entry author.Kept t e)
entry_kept t e is same =
    let stored : t.kept ≡ true = ap (λ (u : Track). u.kept) same in
    let history : t.history ++ kept e ∷ [] ≡ map kept (filter is_kept (entries_of (t.history ++ kept e ∷ []))) =
    ap (λ (u : Track). u.history ++ kept e ∷ []) same ∙ sym (kept_last t.history e is) in
    ap₂ (λ (b : Bool) (h : List Placed). the_track t b h t.home) stored history ∙ ap (the_track t true (kept_of (with_entry author.Kept t e)).history) (ap (λ (u : Track). u.home) same)
  where
    the_track : Track → Bool → List Placed → set.FinSet series_cmp → Track
    the_track t b h hs = record { machine = t.machine; kept = b; history = h; home = hs }

module _ (machine : List ℕ) (e : Entry) (is : is_kept e ≡ true) where
  abbrev grown : Track → Track
  grown t = with_entry author.Kept t e

  all_kept : (tracks : List Track) → AllByRecursion (λ (t : Track). t ≡ kept_of t) tracks
      → AllByRecursion (λ (t : Track). t ≡ kept_of t) (changed machine grown tracks)
  all_kept [] are = tt
  all_kept (t ∷ tracks) are = elim (cases_Bool (is_track machine t)) [
    | inl hit ↦ rw hit (entry_kept t e is are.0, are.1)
    | inr past ↦ rw past (are.0, all_kept tracks are.1)
  ]

  pub entry_more : (tracks : List Track) → AreKept tracks → AreKept (changed machine grown tracks)
  entry_more tracks are = record {
    kept = all_kept tracks are.kept;
    different = subst AreDifferent (sym (changed_names machine grown (λ t. refl) tracks)) are.different;
    few = omega (arith, are.few, changed_length machine grown tracks);
  }
