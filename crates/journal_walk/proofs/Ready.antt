-- What is known of a publication that comes next.
use Rattle.std.proofs.lemmas.Grind.{common_steps}
use Rattle.std.proofs.Common.{◌≡◌, ◌⊎◌, ℕ, zero, suc, ◌<◌, ◌≤◌, Bool, true, false, List, length, get_or, take, inl, inr, sym, ap, ◌∙◌, arith, Option, Some, None}
use Rattle.std.{specs.Prelude.slice_get, proofs.lemmas.List.take-take, proofs.lemmas.Option.{slice_get_read, slice_get_within}}
use Rattle.history_model.specs.declared.{entries.Entry.Entry, entries.Entry.TheVariants.Publish, publication.Publication.Publication}
use Rattle.history_model.specs.{Allowed.Legal, Penalties.setting_of, Positions.positions, Publications.{IsBaseAt, Stands, published}, Runs.is_known}
use Rattle.journal_walk.specs.{Ahead.{IsReady, Slots, slots_of}, Firsts.{IsBefore, base_key, place_of}, Needs.{need_of, time_of}, Versions.IsOf}
use Rattle.journal_walk.specs.declared.{ahead.Ahead.Ahead, version.Version.Version}
use Rattle.journal_walk.proofs.{FirstPlaces.{BaseStands, IsNamed, base-stands, before-named, named-before}, Plans.{StandsIn, in-plan}}

less-or-not : (a b : ℕ) → (a < b) ⊎ (b ≤ a)
less-or-not zero zero = inr (omega arith)
less-or-not zero (suc b) = inl (omega arith)
less-or-not (suc a) zero = inr (omega arith)
less-or-not (suc a) (suc b) = elim (less-or-not a b) [ inl lt ↦ inl (omega (arith, lt)) | inr ge ↦ inr (omega (arith, ge)) ]

-- what is read at a place of the slots
pub slot-at : (slots : Slots) (n k : ℕ) (x : Option Version) → n ≡ k → k < length slots → x ≡ get_or slots n x → slice_get slots k ≡ Some x
slot-at slots n k x same within is = grind (arith, common_steps, slice_get, slice_get_read, length)

module _ (es h : List Entry) (a : Ahead) (p : Publication) (ready : IsReady es h a p) where
  -- its place is one of the slots
  pub of-bases : length h < length a.bases.items
  of-bases = omega (arith, slice_get_within es (length h) (Publish p) ready.next, ready.kept.keeps.as_many_bases)

  pub of-versions : length h < length a.versions.items
  of-versions = omega (arith, slice_get_within es (length h) (Publish p) ready.next, ready.kept.keeps.as_many_versions)

  -- what was known at a version that came was found
  found-then : (is_base : Bool) → time_of is_base p ≤ length h → is_known (published p) (take (time_of is_base p) h) ≡ true
      → (x : Version) × (slice_get (slots_of is_base a.bases.items a.versions.items) (length h) ≡ Some (Some x))
  found-then is_base le known =
      let at : StandsIn a.needs.items (need_of (length h) is_base p) = in-plan es a.needs.items ready.kept.keeps.plan (length h) p is_base ready.next in
      ready.kept.keeps.are_met at.index (need_of (length h) is_base p) at.there (before at) p ready.next (omega arith) known
    where
      before : (at : StandsIn a.needs.items (need_of (length h) is_base p)) → at.index < a.met
      before at = elim (less-or-not at.index a.met) [
        | inl lt ↦ lt
        | inr ge ↦ absurd (let later = ready.all_met at.index (need_of (length h) is_base p) at.there ge in omega (arith, later, le))
      ]

  none-found : (is_base : Bool) → time_of is_base p ≤ length h → slice_get (slots_of is_base a.bases.items a.versions.items) (length h) ≡ Some None
      → is_known (published p) (take (time_of is_base p) h) ≡ true → ⊥
  none-found is_base le none known = grind (arith, common_steps, found-then)

  -- nothing at its version
  pub no-version : slice_get a.versions.items (length h) ≡ Some None → ¬ Stands h p
  no-version none stands = none-found false stands.past none stands.known

  -- what there is at its version
  pub at-version : (x : Version) → slice_get a.versions.items (length h) ≡ Some (Some x) → (p.version ≤ length h) × IsOf (take p.version h) (published p) x
  at-version x is = ready.kept.keeps.versions_are (length h) p x ready.next is

  -- the version is one of the entries that are to be added
  pub same-version : p.version ≤ length h → take p.version h ≡ take p.version es
  same-version le = ap (take p.version) ready.along ∙ take-take p.version (length h) es le

  -- ---- the base
  -- named among them or not
  pub named : p.version ≤ length h → IsBefore p.version (place_of (base_key p) a.firsts) → IsNamed (take p.version h) p
  named le before = grind (arith, common_steps, p, same-version, named-before, es, p.version, ready.kept.firsts)

  pub not-named : p.version ≤ length h → ¬ IsBefore p.version (place_of (base_key p) a.firsts) → 0 < p.base → ¬ IsBaseAt (take p.version h) p
  not-named le none some x3 = grind (arith, common_steps, p.version, ready.kept.firsts, p, before-named, es, same-version)

  -- nothing at its base
  pub no-base : Legal h → p.version ≤ length h → slice_get a.bases.items (length h) ≡ Some None → 0 < p.base → ¬ IsBaseAt (take p.version h) p
  no-base legal le none some (inl bare) = absurd (omega (arith, bare, some))
  no-base legal le none some (inr (any, same)) =
      let base : BaseStands h p = base-stands h p legal le any in
      let lt = base.before in
      none-found true (omega (arith, lt, le)) none base.known

  -- what there is at its base
  at-base : (x : Version) → slice_get a.bases.items (length h) ≡ Some (Some x) → (p.base ≤ length h) × IsOf (take p.base h) (published p) x
  at-base x is = ready.kept.keeps.bases_are (length h) p x ready.next is

  -- another setting there
  pub another : Legal h → p.version ≤ length h → (then base : Version) → IsOf (take p.version h) (published p) then
      → slice_get a.bases.items (length h) ≡ Some (Some base) → ¬ (base.setting ≡ then.setting) → 0 < p.base → ¬ IsBaseAt (take p.version h) p
  another legal le then base x4 there differ some x8 = grind (arith, common_steps, h, p, base-stands, take, p.base, p.version, take-take, at-base)

  -- the same one
  pub has-base : Legal h → p.version ≤ length h → (then base : Version) → IsOf (take p.version h) (published p) then
      → slice_get a.bases.items (length h) ≡ Some (Some base) → base.setting ≡ then.setting → IsBefore p.version (place_of (base_key p) a.firsts)
      → IsBaseAt (take p.version h) p × (base.points ≡ positions (take p.base (take p.version h)) (published p))
  has-base legal le then base of there same before =
      let any : IsNamed (take p.version h) p = named le before in
      let stands : BaseStands h p = base-stands h p legal le any in
      let lt = stands.before in
      let front : take p.base (take p.version h) ≡ take p.base h = take-take p.base p.version h (omega (arith, lt)) in
      let was : IsOf (take p.base h) (published p) base = (at-base base there).1 in (
        inr (any, ap (setting_of p.metric) front ∙ sym was.setting ∙ same ∙ of.setting),
        was.points ∙ ap (λ (v : List Entry). positions v (published p)) (sym front),
      )
