-- What a segmentation begins with, and with which base.
use Rattle.std.proofs.Common.{◌≡◌, ℕ, zero, suc, ℤ, Bool, true, false, cond, List, [], ◌∷◌, take, refl, sym, ap, subst, ◌∙◌, ◌⊎◌, inl, inr, Option, Some, None, true≢false, arith}
use Rattle.std.{specs.Prelude.{nat_lt, unwrap_or}, specs.List.{Any, last_or}, proofs.Math.Logic.∥∥₁_elim, proofs.lemmas.Bool.{cases_Bool, ltb-false}}
use Rattle.std.specs.FinSet as set
use denote.Struct.Props.{props}
use Rattle.segment_model.specs.{Segments.Position, Values.values_by_position}
use Rattle.segment_cost.specs.declared.done.Done.{Done}
use Rattle.pelt_core.specs.Seen.{Tabled, table_of}
use Rattle.publication_index.proofs.Standing.{same-table}
use Rattle.history_model.specs.{declared.entries.Entry.Entry, declared.publication.Publication.Publication, Allowed.Legal, Entries.entries_of}
use Rattle.history_model.specs.{Laws.{LastStands, KnownStays}, Penalties.setting_of}
use Rattle.history_model.specs.{Publications.{last_publication, publications_of, published, IsBaseAt, IsUpTo}, Runs.{Series, is_known}}
use Rattle.track_model.{specs.Tracks.{Track, is_setting, base_of, version_at}, proofs.Settings.setting-is}
use Rattle.machine_state.specs.State.{IsKept}
use Rattle.track_series.specs.{Begun.Begins, Publications.later}

-- ---- what a type says of its table
pub begins-some : (base : ℕ) (old : List Position) (z : ℤ) (len : ℕ) (t : Tabled) → ∥ Begins base old z len (Some t) ∥₁ → t ≡ table_of (values_by_position old) z len
begins-some base old z len t s =
    same-table t (values_by_position old) z len
    (∥∥₁_elim s (search props) (λ x. ap (λ (u : Tabled). u.positions) x))
    (∥∥₁_elim s (search props) (λ x. ap (λ (u : Tabled). u.penalty) x))
    (∥∥₁_elim s (search props) (λ x. ap (λ (u : Tabled). u.length) x))

-- the values of no positions are none
pub begins-none : (base : ℕ) (old : List Position) (z : ℤ) (len : ℕ) → ∥ Begins base old z len None ∥₁ → [] ≡ values_by_position old
begins-none base old z len s = ∥∥₁_elim s (search props) (λ x. ap values_by_position (sym x.1))

-- ---- no later version
pub not-later : (version : ℕ) (o : Option Publication) → later version o ≡ None → IsUpTo version o
not-later version None is = tt
not-later version (Some p) is = elim (cases_Bool (nat_lt version p.version)) [
  | inl hit ↦ absurd (let no : Some p.version ≡ None = ap (λ b. cond b (Some p.version) None) (sym hit) ∙ is in cc)
  | inr miss ↦ ltb-false version p.version miss
]

-- which version is told, from what is kept of the last publication
pub later-kept : (h : List Entry) (version : ℕ) (o : Option Publication) (done : Done) → IsKept h o (Some done)
    → later version o ≡ cond (nat_lt version done.version) (Some done.version) None
later-kept h version None done kept = absurd kept
later-kept h version (Some p) done kept = ap (λ (q : Publication). cond (nat_lt version q.version) (Some q.version) None) kept.0

-- ---- bases
last-any : (P : Publication → Type 0) (xs : List Publication) (q : Publication) → last_or None xs ≡ Some q → P q → Any P xs
last-any P [] q is holds = absurd (let no : None ≡ Some q = is in cc)
last-any P (x ∷ []) q is holds =
    let same : x ≡ q = ap (λ (o : Option Publication). unwrap_or o x) is in
    (0, q, omega arith, same, holds)
last-any P (x ∷ y ∷ xs) q is holds = let rest = last-any P (y ∷ xs) q is holds in (suc rest.0, rest.1, omega (arith, rest.2), rest.3, rest.4)

base-at : LastStands → (h : List Entry) (s : Series) → Legal h → (o : Option Publication) → last_publication s h ≡ o
    → (version_at h o ≡ 0) ⊎ (Any (λ (q : Publication). q.version ≡ version_at h o) (publications_of s h) × (setting_of s.metric (take (version_at h o) h) ≡ setting_of s.metric h))
base-at last h s legal None is = inl refl
base-at last h s legal (Some p) is = elim (cases_Bool (is_setting (setting_of p.metric (take p.version h)) (setting_of p.metric h))) [
  | inl hit ↦
      let series-is : published p ≡ s = (last h s p legal is).0 in
      let version : version_at h (Some p) ≡ p.version = ap (λ b. cond b p.version 0) hit in
      let same = setting-is (setting_of p.metric (take p.version h)) (setting_of p.metric h) hit in
      let same-of-s : setting_of s.metric (take p.version h) ≡ setting_of s.metric h = subst (λ (u : Series). setting_of u.metric (take p.version h) ≡ setting_of u.metric h) series-is same in
      inr (
        last-any (λ (q : Publication). q.version ≡ version_at h (Some p)) (publications_of s h) p is (sym version),
        ap (λ (v : ℕ). setting_of s.metric (take v h)) version ∙ same-of-s,
      )
  | inr miss ↦ inl (ap (λ b. cond b p.version 0) miss)
]

-- the base of a series' next segmentation is one for it
pub base-lawful : LastStands → (t : Track) (s : Series) → Legal (entries_of t.history) → (p : Publication) → published p ≡ s → p.base ≡ base_of t s → IsBaseAt (entries_of t.history) p
base-lawful last t s legal p series-is base = elim (cases_Bool (set.contains t.home s)) [
  | inl hit ↦
      let h : List Entry = entries_of t.history in
      let version : p.base ≡ version_at h (last_publication s h) = base ∙ ap (λ b. cond b (version_at h (last_publication s h)) 0) hit in
      elim (base-at last h s legal (last_publication s h) refl) [
        | inl none ↦ inl (version ∙ none)
        | inr both ↦ inr (
          subst (λ (u : Series). Any (λ (q : Publication). q.version ≡ p.base) (publications_of u h)) (sym series-is) (subst (λ (v : ℕ). Any (λ (q : Publication). q.version ≡ v) (publications_of s h)) (sym version) both.0),
          subst (λ (u : Series). setting_of u.metric (take p.base h) ≡ setting_of u.metric h) (sym series-is) (subst (λ (v : ℕ). setting_of s.metric (take v h) ≡ setting_of s.metric h) (sym version) both.1),
        )
      ]
  | inr miss ↦ inl (base ∙ ap (λ b. cond b (version_at (entries_of t.history) (last_publication s (entries_of t.history))) 0) miss)
]

-- ---- a series that isn't known has none
either : (b : Bool) → cond b zero zero ≡ 0
either true = refl
either false = refl

pub unknown-base : LastStands → KnownStays → (t : Track) (s : Series) → Legal (entries_of t.history) → is_known s (entries_of t.history) ≡ false → base_of t s ≡ 0
unknown-base last known t s legal none = by (last_publication s (entries_of t.history)) refl
  where
    by : (o : Option Publication) → last_publication s (entries_of t.history) ≡ o → base_of t s ≡ 0
    by None is = ap (λ (o : Option Publication). cond (set.contains t.home s) (version_at (entries_of t.history) o) 0) is ∙ either (set.contains t.home s)
    by (Some p) is =
        let stands = last (entries_of t.history) s p legal is in
        let one : is_known s (entries_of t.history) ≡ true =
        known (entries_of t.history) s p.version (subst (λ (u : Series). is_known u (take p.version (entries_of t.history)) ≡ true) stands.0 stands.1.known) in
        absurd (true≢false (sym one ∙ none))
