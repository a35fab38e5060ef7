-- Which places were looked at, and their marks.
use Rattle.std.proofs.{lemmas.Grind.common_steps, Common.{◌≡◌, ◌≢◌, ℕ, ℤ, ◌<◌, List, length, slice_index, ◌⊎◌, inl, inr, sym, ◌∙◌, arith}, lemmas.Bool.cases_eq}
use Rattle.segment_model.specs.Tables.{IsMarkedAt}
use Rattle.pelt_core.specs.Candidates.{AreLookedAt}

module _ (cost : ℕ → ℕ → ℤ) (len : ℕ) (least : List ℤ) (t : ℕ) where
  -- a mark that was looked at twice
  again : (s old mid new : ℕ) → 0 < t → (mid ≡ old) ⊎ IsMarkedAt cost len least t s old mid → IsMarkedAt cost len least t s mid new → IsMarkedAt cost len least t s old new
  again s old mid new some before here = elim before [
    | inl same ↦ rw same at here
    | inr mark ↦ elim mark [
      | inl dear ↦ elim here [
        | inl twice ↦ absurd (omega (arith, twice.0, dear.2, some))
        | inr kept ↦ inl (dear.0, dear.1, kept.0 ∙ dear.2)
      ]
      | inr kept ↦ elim here [
        | inl dear ↦ absurd (kept.1 (sym kept.0 ∙ dear.0) dear.1)
        | inr still ↦ inr (still.0 ∙ kept.0, kept.1)
      ]
    ]
  ]

  -- one place more was looked at
  pub one-looked : (looked more : ℕ → Type 0) (old mid new : List ℕ) (s : ℕ) → AreLookedAt cost len least t looked old mid → s < t → length new ≡ length mid
      → IsMarkedAt cost len least t s (slice_index mid s) (slice_index new s) → ((r : ℕ) → r ≢ s → slice_index new r ≡ slice_index mid r)
      → ((r : ℕ) → more r → looked r ⊎ (r ≡ s)) → AreLookedAt cost len least t more old new
  one-looked looked more old mid new s h lt size here others which = record {
    size = size ∙ h.size;
    each = λ r. elim (cases_eq r s) [
      | inl at ↦ rw at (inr now)
      | inr apart ↦ rw (others r apart) (h.each r)
    ];
    all = λ r is. elim (cases_eq r s) [
      | inl at ↦ rw at now
      | inr apart ↦ elim (which r is) [
        | inl before ↦ rw (others r apart) (h.all r before)
        | inr at ↦ absurd (apart at)
      ]
    ];
    behind = λ r le. others r (λ at. absurd (omega (arith, at, le, lt))) ∙ h.behind r le;
  }
    where
      now : IsMarkedAt cost len least t s (slice_index old s) (slice_index new s)
      now = again s (slice_index old s) (slice_index mid s) (slice_index new s) (omega (arith, lt)) (h.each s) here

  -- some were looked at, and then others
  pub both-looked : (one other : ℕ → Type 0) (old mid new : List ℕ) → 0 < t → AreLookedAt cost len least t one old mid → AreLookedAt cost len least t other mid new
      → AreLookedAt cost len least t (λ s. one s ⊎ other s) old new
  both-looked one other old mid new some h k = record {
    size = k.size ∙ h.size;
    each = grind (arith, common_steps);
    all = λ s which. elim which [
      | inr second ↦ again s (slice_index old s) (slice_index mid s) (slice_index new s) some (h.each s) (k.all s second)
      | inl first ↦ elim (k.each s) [
        | inl same ↦ rw same (h.all s first)
        | inr mark ↦ again s (slice_index old s) (slice_index mid s) (slice_index new s) some (h.each s) mark
      ]
    ];
    behind = λ s le. k.behind s le ∙ h.behind s le;
  }

  -- the same places in other words
  pub looked-as : (one other : ℕ → Type 0) (old new : List ℕ) → AreLookedAt cost len least t one old new → ((s : ℕ) → other s → one s) → AreLookedAt cost len least t other old new
  looked-as one other old new h also = record { size = h.size; each = h.each; all = λ s is. h.all s (also s is); behind = h.behind }
