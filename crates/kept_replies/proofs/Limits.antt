-- Which limit an entry passes first, on a history and on the kept one.
use Rattle.std.proofs.Common.{◌≡◌, ◌≢◌, ℕ, ◌≤◌, inl, inr, Bool, true, false, cond, List, [], ◌∷◌, ◌++◌, length, Some, refl, sym, ap, ◌∙◌, arith}
use Rattle.std.{specs.Prelude.nat_lt, proofs.lemmas.Bool.{cases_Bool, le-ltb, ltb-false}, proofs.lemmas.List.Elements.filter-append}
use Rattle.metric_table.specs.{Limits.most, declared.limits.Limit.Limit}
use Rattle.metric_table.specs.declared.limits.Limit.TheVariants as limit
use Rattle.history_model.specs.{declared.entries.Entry.Entry, Allowed.{count_of, first_passed}}
use Rattle.keep_rows.{specs.Kept.{is_kept, kept_entries}, proofs.Choices.shorter, proofs.Unpublished.{IsUnpublished, count_equal}}

-- limits on anything but cuts
abbrev pub AreUncut : List Limit → Type 0
AreUncut [] = Unit {0}
AreUncut (limit.Cuts ∷ limits) = ⊥
AreUncut (limit ∷ limits) = AreUncut limits

pub kept_append : (h : List Entry) (e : Entry) → is_kept e ≡ true → kept_entries h ++ e ∷ [] ≡ kept_entries (h ++ e ∷ [])
kept_append h e is = sym (filter-append is_kept h (e ∷ []) ∙ ap (λ (b : Bool). kept_entries h ++ cond b (e ∷ []) []) is)

lt_so : (n : ℕ) (a b : ℕ) → a ≤ b → nat_lt n b ≡ false → nat_lt n a ≡ false
lt_so n a b le past = le-ltb n a (omega (arith, le, ltb-false n b past))

module _ (h : List Entry) (e : Entry) (is : is_kept e ≡ true) where
  -- a limit that both histories pass, or neither
  same_test : (l : Limit) → IsUnpublished l → nat_lt (most l) (count_of l (kept_entries h ++ e ∷ [])) ≡ nat_lt (most l) (count_of l (h ++ e ∷ []))
  same_test l free = ap (λ c. nat_lt (most l) c) (ap (count_of l) (kept_append h e is) ∙ count_equal (h ++ e ∷ []) l free)

  passed_past : (l : Limit) (limits : List Limit) (g : List Entry) → nat_lt (most l) (count_of l (g ++ e ∷ [])) ≡ false
      → first_passed (l ∷ limits) g e ≡ first_passed limits g e
  passed_past l limits g past = rw past refl

  passed_hit : (l : Limit) (limits : List Limit) (g : List Entry) → nat_lt (most l) (count_of l (g ++ e ∷ [])) ≡ true
      → first_passed (l ∷ limits) g e ≡ Some l
  passed_hit l limits g hit = rw hit refl

  -- where a limit is passed alike, so is the first of it and others
  with_same : (l : Limit) (limits : List Limit) → IsUnpublished l
      → (first_passed limits h e ≢ Some limit.Steps → first_passed limits (kept_entries h) e ≡ first_passed limits h e)
      → first_passed (l ∷ limits) h e ≢ Some limit.Steps → first_passed (l ∷ limits) (kept_entries h) e ≡ first_passed (l ∷ limits) h e
  with_same l limits free rest room = elim (cases_Bool (nat_lt (most l) (count_of l (h ++ e ∷ [])))) [
    | inl hit ↦ passed_hit l limits (kept_entries h) (same_test l free ∙ hit) ∙ sym (passed_hit l limits h hit)
    | inr past ↦
        passed_past l limits (kept_entries h) (same_test l free ∙ past)
        ∙ rest (λ full. room (passed_past l limits h past ∙ full)) ∙ sym (passed_past l limits h past)
  ]

  -- where the history has room for a step, the first limit that is passed is the same
  pub passed_so : (limits : List Limit) → AreUncut limits → first_passed limits h e ≢ Some limit.Steps
      → first_passed limits (kept_entries h) e ≡ first_passed limits h e
  passed_so [] uncut room = refl
  passed_so (limit.Cuts ∷ limits) uncut room = absurd uncut
  passed_so (limit.Steps ∷ limits) uncut room = elim (cases_Bool (nat_lt (most limit.Steps) (length (h ++ e ∷ [])))) [
    | inl hit ↦ absurd (room (passed_hit limit.Steps limits h hit))
    | inr past ↦
        let fewer : length (kept_entries h ++ e ∷ []) ≤ length (h ++ e ∷ []) = rw (kept_append h e is) (shorter (h ++ e ∷ [])) in
        passed_past limit.Steps limits (kept_entries h) (lt_so (most limit.Steps) (length (kept_entries h ++ e ∷ [])) (length (h ++ e ∷ [])) fewer past)
        ∙ passed_so limits uncut (λ full. room (passed_past limit.Steps limits h past ∙ full)) ∙ sym (passed_past limit.Steps limits h past)
  ]
  passed_so (l ∷ limits) uncut room = with_same l limits tt (passed_so limits uncut) room
