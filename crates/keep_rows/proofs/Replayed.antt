-- What a row does with machines, as the code of a load sees it.
use Rattle.std.proofs.Common.{◌≡◌, ◌≢◌, inl, inr, ℕ, zero, suc, Bool, true, false, List, [], ◌∷◌, Option, None, Some, Result, Ok, Err, IfOk, OnErr, get_or, refl, sym, ap, subst, ◌∙◌}
use Rattle.std.specs.Prelude.{find, slice_get, set, is_some, IfNone}
use Rattle.history_model.specs.declared.entries.Author.TheVariants as author
use Rattle.history_model.specs.{declared.entries.Entry.Entry, declared.entries.Entry.TheVariants.Publish, Allowed.Allowed, Entries.entries_of}
use Rattle.store_rows.specs.{Laws.RowsAreUnique, Rows.{Row, IsRowOf}}
use Rattle.track_model.specs.Tracks.{Track, with_entry}
use Rattle.track_replay.specs.{Made.IsPlain, Replays.IsReplayed}
use Rattle.keep_rows.specs.{Kept.{is_kept, AreKept}, Loading.{Stored, SpellsIn, AddsEntry, Adds, Makes}, Rows.format_row, Machines.is_track, Places.IsFirstAt}
use Rattle.keep_rows.proofs.{Machines.entry_more, Once.no_format}

pub none_of : {A P : Type 0} (o : Option A) → IfNone o P → is_some o ≡ false → P
none_of None p is = p
none_of (Some x) p is = absurd cc

pub is_plain : (e : Entry) → is_kept e ≡ true → IsPlain e
is_plain (Publish p) is = absurd cc
is_plain e is = tt

-- setting what is there changes nothing
set_again : (tracks : List Track) (i : ℕ) (t : Track) → slice_get tracks i ≡ Some t → set tracks i t ≡ tracks
set_again [] i t at = absurd cc
set_again (x ∷ tracks) zero t at = let same : x ≡ t = cc in rw same refl
set_again (x ∷ tracks) (suc i) t at = ap (λ ts. x ∷ ts) (set_again tracks i t at)

got : (tracks : List Track) (i : ℕ) (t u : Track) → slice_get tracks i ≡ Some t → u ≡ get_or tracks i u → t ≡ u
got [] i t u at is = absurd cc
got (x ∷ tracks) zero t u at is = let same : x ≡ t = cc in sym same ∙ sym is
got (x ∷ tracks) (suc i) t u at is = got tracks i t u at is

-- what is read at the first place of a machine is its track
pub first_is : (machine : List ℕ) (seen tracks : List Track) (i : ℕ) (u : Track) → seen ≡ tracks → ((t : Track) × IsFirstAt machine seen i t) → u ≡ get_or tracks i u
    → IsFirstAt machine tracks i u
first_is machine seen tracks i u same (t, first) is =
    let there : IsFirstAt machine tracks i t = subst (λ (ts : List Track). IsFirstAt machine ts i t) same first in
    subst (λ (x : Track). IsFirstAt machine tracks i x) (got tracks i t u there.place is) there

module _ {E : Type 0} (machine : List ℕ) (tracks : List Track) (i : ℕ) (t new : Track) (e : Entry) (first : IsFirstAt machine tracks i t) (is : is_kept e ≡ true) where
  pub replayed_kept : (r : Result Bool E) → IfOk r (λ added. IsReplayed t e added new) → OnErr r (new ≡ t) → AreKept tracks → AreKept (set tracks i new)
  replayed_kept (Ok true) replayed same are =
      subst AreKept (first.change (λ u. with_entry author.Kept u e) ∙ ap (set tracks i) (sym replayed.track)) (entry_more machine e is tracks are)
  replayed_kept (Ok false) replayed same are = subst AreKept (sym (ap (set tracks i) replayed.track ∙ set_again tracks i t first.place)) are
  replayed_kept (Err x) replayed same are = subst AreKept (sym (ap (set tracks i) same ∙ set_again tracks i t first.place)) are

  module _ (version : ℕ) (before : List Track) (seen : before ≡ tracks) (text : List ℕ) (spells : SpellsIn version text e) where
    pub replayed_adds : (r : Result Bool E) → IfOk r (λ added. IsReplayed t e added new) → IfOk r (λ done. done ≡ true → AddsEntry version before machine text (set tracks i new))
    replayed_adds (Ok true) replayed = λ done. subst (λ (ts : List Track). AddsEntry version ts machine text (set tracks i new)) (sym seen) (record {
      track = t;
      entry = e;
      found = first.found;
      spelled = spells;
      is_kept = is;
      allowed = replayed.allowed.0 refl;
      behind = ap (set tracks i) replayed.track ∙ sym (first.change (λ u. with_entry author.Kept u e));
    })
    replayed_adds (Ok false) replayed = λ done. absurd cc
    replayed_adds (Err x) replayed = tt

    pub replayed_refuses : ((x y : Entry) → SpellsIn version text x → SpellsIn version text y → x ≡ y) → (r : Result Bool E) → IfOk r (λ added. IsReplayed t e added new)
        → IfOk r (λ done. done ≡ false → (after : List Track) → ¬ AddsEntry version before machine text after)
    replayed_refuses law (Ok true) replayed = λ done after adds. absurd cc
    replayed_refuses law (Ok false) replayed = λ done after adds.
        let same_entry : adds.entry ≡ e = law adds.entry e adds.spelled spells in
        let found : Some adds.track ≡ Some t = sym adds.found ∙ ap (find (is_track machine)) seen ∙ first.found in
        let same_track : adds.track ≡ t = cc in
        let allowed : Allowed (entries_of t.history) e =
        subst (λ (x : Entry). Allowed (entries_of t.history) x) same_entry (subst (λ (u : Track). Allowed (entries_of u.history) adds.entry) same_track adds.allowed) in
        let true_is : false ≡ true = replayed.allowed.1 allowed in
        absurd cc
    replayed_refuses law (Err x) replayed = tt

-- bytes that are a row which does nothing make nothing
pub refused_made : {E : Type 0} → RowsAreUnique → (before : Stored) (bytes : List ℕ) (row : Row) → IsRowOf bytes row → bytes ≢ format_row → (r : Result Bool E)
    → IfOk r (λ done. done ≡ false → (after : List Track) → ¬ Adds before.version before.machines row after)
    → IfOk r (λ done. done ≡ false → (after : Stored) → ¬ Makes before bytes after)
refused_made law before bytes row is other (Ok done) none = λ same after makes. elim makes [
  | inl format ↦ other format.0
  | inr adds ↦ none same after.machines (subst (λ (x : Row). Adds before.version before.machines x after.machines) (law bytes adds.0.0 row adds.0.1 is) adds.0.2)
]
refused_made law before bytes row is other (Err x) none = tt

-- and those of a row that does something make it
pub taken_made : {E : Type 0} → (before after : Stored) (bytes : List ℕ) (row : Row) → IsRowOf bytes row → after.version ≡ before.version → (r : Result Bool E)
    → IfOk r (λ done. done ≡ true → Adds before.version before.machines row after.machines)
    → IfOk r (λ done. done ≡ true → Makes before bytes after)
taken_made before after bytes row is same (Ok done) adds = λ yes. inr ((row, is, adds yes), same)
taken_made before after bytes row is same (Err x) adds = tt

-- the row of the version makes it new, or stands already and makes nothing
pub format_made : (before after : Stored) (bytes : List ℕ) (r : Bool) → bytes ≡ format_row
    → (r ≡ true → (before.version ≡ 1) × (after ≡ record { machines = before.machines; version = 2 })) → r ≡ true → Makes before bytes after
format_made before after bytes r is set_new done = inl (is, (set_new done).0, (set_new done).1)

pub format_refused : (before : Stored) (bytes : List ℕ) (r : Bool) → bytes ≡ format_row → (r ≡ false → before.version ≢ 1) → r ≡ false
    → (after : Stored) → ¬ Makes before bytes after
format_refused before bytes r is stands done after makes = elim makes [
  | inl format ↦ stands done format.1
  | inr adds ↦ no_format adds.0.0 (subst (λ (bs : List ℕ). IsRowOf bs adds.0.0) is adds.0.1)
]

-- bytes that are no row, and not that of the version, make nothing
pub none_made : (before : Stored) (bytes : List ℕ) → bytes ≢ format_row → ((row : Row) → ¬ IsRowOf bytes row) → (after : Stored) → ¬ Makes before bytes after
none_made before bytes other none after makes = elim makes [
  | inl format ↦ other format.0
  | inr adds ↦ none adds.0.0 adds.0.1
]
