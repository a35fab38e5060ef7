-- The search for the first least of the candidates.
use Rattle.std.proofs.Common.{◌≡◌, ◌≢◌, ℕ, ℤ, ◌+◌, ◌*◌, ◌^◌, ◌<◌, ◌≤◌, List, length, slice_index, ◌⊎◌, inl, inr, sym, ◌∙◌, pos, neg_ℤ, ◌≤ℤ◌, ◌<ℤ◌, arith}
use Rattle.std.proofs.lemmas.{Int.{ints, by_lt_z}, Bool.{cases_lt, cases_eq}, Grind.common_steps}
use Rattle.pelt_core.specs.{declared.bounds.Found.Found, Candidates.total_from, Bounds.{IsNoLater, IsFirst, AreLooked}}

module _ (cost : ℕ → ℕ → ℤ) (least : List ℤ) (t : ℕ) (cs : List ℕ) (guess : ℕ) where
  -- one candidate more was looked at
  pub next : (upto : ℕ) (best here r : Found) → IsFirst cost least t cs guess upto best → upto < length cs → here.index ≡ upto → here.total ≡ total_from cost least t (slice_index cs upto)
      → neg_ℤ (pos (10 ^ 36)) ≤ℤ here.total → here.total ≤ℤ pos (2 * 10 ^ 37)
      → ((here.total <ℤ best.total) ⊎ ((here.total ≡ best.total) × (here.index < best.index)) → r ≡ here) → (IsNoLater best here.total here.index → r ≡ best)
      → IsFirst cost least t cs guess (upto + 1) r
  next upto best here r h inside at is low high if_here if_best =
      by_lt_z here.total best.total
      (λ less. rw (if_here (inl less)) (taken (λ x i later. inl (above x i less later))))
      (λ ge. by_lt_z best.total here.total
      (λ less. rw (if_best (inl less)) (kept (inl less)))
      (λ le.
      let e : here.total ≡ best.total = omega (arith, ints, ge, le) in
      elim (cases_lt here.index best.index) [
        | inl earlier ↦ rw (if_here (inr (e, earlier))) (taken (λ x i later. tied x i e earlier later))
        | inr later ↦ let e' : best.total ≡ here.total = sym e in rw (if_best (inr (e', later))) (kept (inr (e', later)))
      ]))
    where
      above : (x : ℤ) (i : ℕ) → here.total <ℤ best.total → IsNoLater best x i → here.total <ℤ x
      above x i less later = elim later [ inl more ↦ omega (arith, ints, less, more) | inr same ↦ omega (arith, ints, less, same.0) ]

      tied : (x : ℤ) (i : ℕ) → here.total ≡ best.total → here.index < best.index → IsNoLater best x i → IsNoLater here x i
      tied x i e earlier later = elim later [ inl more ↦ inl (omega (arith, ints, e, more)) | inr same ↦ inr (e ∙ same.0, omega (arith, earlier, same.1)) ]

      taken : ((x : ℤ) (i : ℕ) → IsNoLater best x i → IsNoLater here x i) → IsFirst cost least t cs guess (upto + 1) here
      taken better = record {
        made = record { inside = omega (arith, at, inside); exact = rw at is; low = low; high = high };
        before = λ i in' which. elim (cases_eq i upto) [
          | inl now ↦ rw now (inr (is, omega (arith, at)))
          | inr apart ↦ better _ i (h.before i in' (elim which [ inl before ↦ inl (omega (arith, before, apart)) | inr same ↦ inr same ]))
        ];
      }

      kept : IsNoLater best here.total here.index → IsFirst cost least t cs guess (upto + 1) best
      kept later = record {
        made = h.made;
        before = λ i in' which. elim (cases_eq i upto) [
          | inl now ↦ rw (now, ← is, ← at) later
          | inr apart ↦ h.before i in' (elim which [ inl before ↦ inl (omega (arith, before, apart)) | inr same ↦ inr same ])
        ];
      }

  -- when all were looked at
  pub found : (best : Found) → IsFirst cost least t cs guess (length cs) best
      → ((k : ℕ) → k < length cs → total_from cost least t (slice_index cs best.index) ≤ℤ total_from cost least t (slice_index cs k))
      × ((k : ℕ) → k < best.index → total_from cost least t (slice_index cs best.index) <ℤ total_from cost least t (slice_index cs k))
  found best h = grind (arith, common_steps)

-- one candidate more of a block was looked at
pub looked-next : (cost : ℕ → ℕ → ℤ) (least : List ℤ) (t : ℕ) (cs : List ℕ) (guess start upto : ℕ) (best here r : Found) (lowest r_low : ℤ) → AreLooked cost least t cs guess start upto best lowest
    → upto < length cs → here.index ≡ upto → here.total ≡ total_from cost least t (slice_index cs upto) → neg_ℤ (pos (10 ^ 36)) ≤ℤ here.total → here.total ≤ℤ pos (2 * 10 ^ 37)
    → ((here.total <ℤ best.total) ⊎ ((here.total ≡ best.total) × (here.index < best.index)) → r ≡ here) → (IsNoLater best here.total here.index → r ≡ best)
    → r_low ≤ℤ lowest → (here.index ≢ guess → r_low ≤ℤ here.total) → (r_low ≡ lowest) ⊎ (r_low ≡ here.total)
    → AreLooked cost least t cs guess start (upto + 1) r r_low
looked-next cost least t cs guess start upto best here r lowest r_low h inside at is low high if_here if_best no_more at_here one = record {
  first = next cost least t cs guess upto best here r h.first inside at is low high if_here if_best;
  at_most = λ i from before in' apart. elim (cases_eq i upto) [
    | inl now ↦ let most = at_here (λ same. apart (now ∙ sym at ∙ same)) in rw (now, ← is) most
    | inr earlier ↦ let most = h.at_most i from (omega (arith, before, earlier)) in' apart in omega (arith, ints, most, no_more)
  ];
  low = elim one [ inl same ↦ rw same h.low | inr same ↦ rw same low ];
  high = elim one [ inl same ↦ rw same h.high | inr same ↦ rw same high ];
}
