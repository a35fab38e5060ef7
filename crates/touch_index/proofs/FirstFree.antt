-- The first free series of a list of marks that is in order.
use Rattle.std.proofs.Common.{◌≡◌, ℕ, true, false, cond, [], ◌∷◌, refl, sym, ap, subst, ◌∙◌, inl, inr, Option, Some, None}
use Rattle.std.specs.{declared.cmp.Ordering.TheVariants.Less, Ordering.{is_eq, is_lt, ordering_reverse}, Cmp.IsTotalOrder, List.AllByRecursion}
use Rattle.std.{specs.List.Sorted.IsStrictlySortedBy, specs.Map.keys_of, proofs.lemmas.Bool.cases_Bool, proofs.lemmas.Cmp.tied_itself}
use Rattle.touch_index.specs.{contracts.key.SeriesKeyOrd.TheImpl.Laws.total-law, Free.{free_or, first_free}}
use Rattle.touch_index.specs.{Marks.{Entries, key_cmp, mark_of, IsFirstFree, NoneIsFree}, declared.key.SeriesKey.SeriesKey, declared.mark.Claim.Claim}
use Rattle.touch_index.{specs.declared.mark.Claim.TheVariants.{Free, Taken, Refused}, specs.declared.mark.Mark.Mark, proofs.Keys.same-key}

total : IsTotalOrder key_cmp
total = total-law

-- a series that has a mark behind another one is above it
below : (k : SeriesKey) (es : Entries) → AllByRecursion (λ y. key_cmp k y ≡ Less) (keys_of es) → (q : SeriesKey) (m : Mark) → mark_of q es ≡ Some m → key_cmp k q ≡ Less
below k [] all q m there = absurd (cc)
below k (e ∷ es) all q m there = elim (cases_Bool (is_eq (key_cmp q e.0))) [
  | inl same ↦ ap (key_cmp k) (same-key q e.0 same) ∙ all.0
  | inr other ↦ below k es all.1 q m (sym (ap (λ b. cond b (Some e.1) (mark_of q es)) other) ∙ there)
]

not-below : (k q : SeriesKey) → key_cmp k q ≡ Less → is_lt (key_cmp q k) ≡ false
not-below k q less = ap is_lt (total.antisymm q k ∙ ap ordering_reverse less)

-- the mark of the first one, or of one behind it
module _ (e : SeriesKey × Mark) (es : Entries) (q : SeriesKey) (m : Mark) (there : mark_of q (e ∷ es) ≡ Some m) where
  here-or : {P : Type 0} → (q ≡ e.0 → m ≡ e.1 → P) → (is_eq (key_cmp q e.0) ≡ false → mark_of q es ≡ Some m → P) → P
  here-or first later = elim (cases_Bool (is_eq (key_cmp q e.0))) [
    | inl same ↦
        let found : Some e.1 ≡ Some m = sym (ap (λ b. cond b (Some e.1) (mark_of q es)) same) ∙ there in
        first (same-key q e.0 same) (cc)
    | inr other ↦ later other (sym (ap (λ b. cond b (Some e.1) (mark_of q es)) other) ∙ there)
  ]

-- there is none
taken : (claim : Claim) (key : SeriesKey) (step : ℕ) (more : Option (SeriesKey × ℕ)) → free_or claim key step more ≡ None → (claim ≡ Free → ⊥) × (more ≡ None)
taken Free key step more none = absurd (cc)
taken Taken key step more none = (λ e. cc, none)
taken Refused key step more none = (λ e. cc, none)

pub none-free : (es : Entries) → first_free es ≡ None → NoneIsFree es
none-free [] none q m there free = absurd (cc)
none-free (e ∷ es) none q m there free =
    let parts = taken e.1.claim e.0 e.1.touched (first_free es) none in
    here-or e es q m there
    (λ at is. parts.0 (sym (ap (λ (n : Mark). n.claim) is) ∙ free))
    (λ other later. none-free es parts.1 q m later free)

-- there is one
first-or : (claim : Claim) (key : SeriesKey) (step : ℕ) (more : Option (SeriesKey × ℕ)) (found : SeriesKey × ℕ) → free_or claim key step more ≡ Some found
    → {P : Type 0} → (claim ≡ Free → (key, step) ≡ found → P) → ((claim ≡ Free → ⊥) → more ≡ Some found → P) → P
first-or Free key step more found is first later = first refl (cc)
first-or Taken key step more found is first later = later (λ e. cc) is
first-or Refused key step more found is first later = later (λ e. cc) is

marked : (e : SeriesKey × Mark) → e.1.claim ≡ Free → e.1 ≡ record { touched = e.1.touched; claim = Free }
marked e free = ap (λ (claim : Claim). record { touched = e.1.touched; claim = claim }) free

pub some-free : (es : Entries) → IsStrictlySortedBy key_cmp (keys_of es) → (found : SeriesKey × ℕ) → first_free es ≡ Some found → IsFirstFree es found.0 found.1
unfolding IsStrictlySortedBy
some-free [] up found is = absurd (cc)
some-free (e ∷ es) up found is = first-or e.1.claim e.0 e.1.touched (first_free es) found is
    (λ free at.
    let itself : is_eq (key_cmp e.0 e.0) ≡ true = ap is_eq (tied_itself total e.0) in
    let mark : mark_of e.0 (e ∷ es) ≡ Some (record { touched = e.1.touched; claim = Free }) =
    ap (λ b. cond b (Some e.1) (mark_of e.0 es)) itself ∙ ap Some (marked e free) in
    let first : IsFirstFree (e ∷ es) e.0 e.1.touched = record {
      free = mark;
      least = λ q m there unclaimed. here-or e es q m there
          (λ at is. ap (λ (k : SeriesKey). is_lt (key_cmp k e.0)) at ∙ ap is_lt (tied_itself total e.0))
          (λ other later. not-below e.0 q (below e.0 es up.0 q m later));
    } in
    subst (λ (f : SeriesKey × ℕ). IsFirstFree (e ∷ es) f.0 f.1) at first)
    (λ claimed later.
    let rest : IsFirstFree es found.0 found.1 = some-free es up.1 found later in
    let above : key_cmp e.0 found.0 ≡ Less = below e.0 es up.0 found.0 (record { touched = found.1; claim = Free }) rest.free in
    let apart : is_eq (key_cmp found.0 e.0) ≡ false = ap is_eq (total.antisymm found.0 e.0 ∙ ap ordering_reverse above) in
    record {
      free = ap (λ b. cond b (Some e.1) (mark_of found.0 es)) apart ∙ rest.free;
      least = λ q m there unclaimed. here-or e es q m there
          (λ at is. absurd (claimed (sym (ap (λ (n : Mark). n.claim) is) ∙ unclaimed)))
          (λ other later. rest.least q m later unclaimed);
    })
