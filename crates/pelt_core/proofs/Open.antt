-- The places that are chosen, and those that are open.
use Rattle.std.proofs.Common.{◌≡◌, ℕ, zero, suc, ◌+◌, ◌<◌, ◌≤◌, Bool, true, false, ◌&&◌, List, [], ◌∷◌, ◌++◌, length, get_or, slice_index, filter, ◌⊎◌, inl, inr, refl, sym, ◌∙◌, true≢false, arith}
use Rattle.std.proofs.lemmas.{Bool.{cases_lt, cases_eq}, Grind.common_steps, List.{length-append, get_or_append_left}}
use Rattle.segment_model.specs.Tables.{MayBegin}
use Rattle.pelt_core.specs.Candidates.{chosen_below, begins, stays}

-- each number of the list is below the next
abbrev pub IsRising : List ℕ → Type 0
IsRising xs = (i j : ℕ) → i < j → j < length xs → slice_index xs i < slice_index xs j

-- an element of a list that grew by one, at its end or before
push-at : (xs : List ℕ) (x d k : ℕ) → k ≡ length xs → get_or (xs ++ x ∷ []) k d ≡ x
push-at [] x d zero e = refl
push-at [] x d (suc k) e = absurd (omega arith)
push-at (y ∷ xs) x d zero e = absurd (omega arith)
push-at (y ∷ xs) x d (suc k) e = push-at xs x d k (omega arith)

module _ (p : ℕ → Bool) where
  -- what holds of the numbers below n, and of n where it is chosen, holds of those below n + 1
  chosen-more : (n : ℕ) → (chosen_below p (suc n) ≡ chosen_below p n ++ n ∷ []) × (p n ≡ true) ⊎ (chosen_below p (suc n) ≡ chosen_below p n) × (p n ≡ false)
  chosen-more n = grind (arith, common_steps)

  pub chosen-in : (n i : ℕ) → i < length (chosen_below p n) → (slice_index (chosen_below p n) i < n) × (p (slice_index (chosen_below p n) i) ≡ true)
  chosen-in zero i lt = absurd (omega arith)
  chosen-in (suc n) i lt = elim (chosen-more n) [
    | inl more ↦
        let lt' = rw more.0 at lt in
        rw more.0 (elim (cases_lt i (length (chosen_below p n))) [
          | inl before ↦ let h = chosen-in n i before in rw (get_or_append_left (chosen_below p n) (n ∷ []) 0 i before) (omega (arith, h.0), h.1)
          | inr behind ↦ let e : i ≡ length (chosen_below p n) = omega (arith, lt', length-append (chosen_below p n) (n ∷ [])) in
              rw (push-at (chosen_below p n) n 0 i e) (omega arith, more.1)
        ])
    | inr same ↦ let lt' = rw same.0 at lt in rw same.0 (let h = chosen-in n i lt' in (omega (arith, h.0), h.1))
  ]

  pub chosen-find : (n s : ℕ) → s < n → p s ≡ true → (i : ℕ) × (i < length (chosen_below p n)) × (slice_index (chosen_below p n) i ≡ s)
  chosen-find zero s lt is = absurd (omega arith)
  chosen-find (suc n) s lt is = elim (chosen-more n) [
    | inl more ↦ rw more.0 (elim (cases_eq s n) [
      | inl at ↦ (length (chosen_below p n), omega (arith, length-append (chosen_below p n) (n ∷ [])), push-at (chosen_below p n) n 0 (length (chosen_below p n)) refl ∙ sym at)
      | inr apart ↦
          let h = chosen-find n s (omega arith) is in
          (h.0, omega (arith, h.1, length-append (chosen_below p n) (n ∷ [])), get_or_append_left (chosen_below p n) (n ∷ []) 0 h.0 h.1 ∙ h.2)
    ])
    | inr same ↦ rw same.0 (elim (cases_eq s n) [
      | inl at ↦ absurd (true≢false (sym (rw at at is) ∙ same.1))
      | inr apart ↦ chosen-find n s (omega arith) is
    ])
  ]

  pub chosen-rising : (n : ℕ) → IsRising (chosen_below p n)
  chosen-rising zero i j lt in' = absurd (omega arith)
  chosen-rising (suc n) i j lt in' = elim (chosen-more n) [
    | inl more ↦
        let in'' = rw more.0 at in' in
        rw more.0 (elim (cases_lt j (length (chosen_below p n))) [
          | inl before ↦
              rw (get_or_append_left (chosen_below p n) (n ∷ []) 0 i (omega arith), get_or_append_left (chosen_below p n) (n ∷ []) 0 j before) (chosen-rising n i j lt before)
          | inr behind ↦ let e : j ≡ length (chosen_below p n) = omega (arith, in'', length-append (chosen_below p n) (n ∷ [])) in
              rw (push-at (chosen_below p n) n 0 j e, get_or_append_left (chosen_below p n) (n ∷ []) 0 i (omega arith)) (chosen-in n i (omega arith)).0
        ])
    | inr same ↦ let in'' = rw same.0 at in' in rw same.0 (chosen-rising n i j lt in'')
  ]

  pub chosen-few : (n : ℕ) → length (chosen_below p n) ≤ n
  chosen-few zero = omega arith
  chosen-few (suc n) = grind (arith, common_steps, chosen-few n)

  pub chosen-next : (n : ℕ) → p n ≡ true → chosen_below p (n + 1) ≡ chosen_below p n ++ n ∷ []
  chosen-next n is = grind (arith, common_steps)

  pub chosen-skip : (n : ℕ) → p n ≡ false → chosen_below p (n + 1) ≡ chosen_below p n
  chosen-skip n isnt = grind (arith, common_steps)

pub chosen-same : (p q : ℕ → Bool) (n : ℕ) → ((s : ℕ) → s < n → p s ≡ q s) → chosen_below p n ≡ chosen_below q n
chosen-same p q zero same = refl
chosen-same p q (suc n) same = rw (same n (omega arith), chosen-same p q n (λ s lt. same s (omega arith))) refl

-- of the chosen numbers those that are tested too
pub chosen-filter : (p q r : ℕ → Bool) (n : ℕ) → ((s : ℕ) → s < n → (p s && q s) ≡ r s) → filter q (chosen_below p n) ≡ chosen_below r n
chosen-filter p q r zero both = refl
chosen-filter p q r (suc n) both = grind (arith, common_steps, chosen-filter p q r n (λ s lt. both s (omega arith)))

-- ---- the tests

-- no mark up to place g
abbrev pub IsUnmarkedTo : ℕ → List ℕ → ℕ → Type 0
IsUnmarkedTo g pruned s = (slice_index pruned s ≡ 0) ⊎ (g < slice_index pruned s)

stays-tells : (g : ℕ) (pruned : List ℕ) (s : ℕ)
    → (stays g pruned s ≡ true) × (s < length pruned) × IsUnmarkedTo g pruned s ⊎ (stays g pruned s ≡ false) × ((s < length pruned) → IsUnmarkedTo g pruned s → ⊥)
stays-tells g pruned s = grind (arith, common_steps)

pub stays-when : (g : ℕ) (pruned : List ℕ) (s : ℕ) → s < length pruned → IsUnmarkedTo g pruned s → stays g pruned s ≡ true
stays-when g pruned s lt un = elim (stays-tells g pruned s) [ inl is ↦ is.0 | inr isnt ↦ absurd (isnt.1 lt un) ]

pub begins-when : (len s : ℕ) → MayBegin len s → begins len s ≡ true
begins-when len s may = grind (arith, common_steps)

pub begins-not : (len s : ℕ) → 0 < s → s < len → begins len s ≡ false
begins-not len s some short = grind (arith, common_steps)

pub open-when : (len g : ℕ) (pruned : List ℕ) (s : ℕ) → MayBegin len s → s < length pruned → IsUnmarkedTo g pruned s → (begins len s && stays g pruned s) ≡ true
open-when len g pruned s may lt un = rw (begins-when len s may, stays-when g pruned s lt un) refl

pub open-is : (len g : ℕ) (pruned : List ℕ) (s : ℕ) → (begins len s && stays g pruned s) ≡ true → MayBegin len s × IsUnmarkedTo g pruned s
open-is len g pruned s is = grind (arith, common_steps)

-- marks that count alike have the same test
pub stays-alike : (g g' : ℕ) (old new : List ℕ) (s : ℕ) → s < length old → s < length new → (IsUnmarkedTo g old s → IsUnmarkedTo g' new s) → (IsUnmarkedTo g' new s → IsUnmarkedTo g old s)
    → stays g old s ≡ stays g' new s
stays-alike g g' old new s in' in'' there back = grind (arith, common_steps)

-- a test that implies another one, and the two together
pub stays-more : (len g g' : ℕ) (old new : List ℕ) (s : ℕ) → s < length old → (IsUnmarkedTo g' new s → IsUnmarkedTo g old s)
    → ((begins len s && stays g old s) && stays g' new s) ≡ (begins len s && stays g' new s)
stays-more len g g' old new s in' only = grind (arith, common_steps)
