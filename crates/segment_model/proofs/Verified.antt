-- Tables that were looked at entry by entry are the tables.
use Rattle.std.proofs.lemmas.Grind.{common_steps}
use Rattle.std.proofs.Common.{◌≡◌, ◌≢◌, ℕ, ℤ, suc, zero, ◌+◌, ◌<◌, ◌≤◌, List, [], ◌∷◌, ◌++◌, reverse, length, map, cond, ltb, take, slice_index, ◌⊎◌, inl, inr, sym, ap, ◌∙◌, subst, pos, ◌+ℤ◌, ◌≤ℤ◌, arith}
use Rattle.std.proofs.lemmas.{Int.ints, Bool.{cases_lt, cases_eq}, List.{length-take, length-map, take_more, take_all, get_or-take, get_or-map}}
use Rattle.segment_model.specs.{Cuts.Merges, Laws.{VerifiedIsTable, TableIsVerified, BestIsWalk}}
use Rattle.segment_model.specs.Tables.{int_at, IsCandidate, IsDear, IsTable, IsFirstLeast, IsMarkedAt, IsUnmarkedBehind, IsOpenAt, IsUnmarkedBefore, IsSettled, IsVerified, IsWalk}
use Rattle.segment_model.proofs.{BestCuts.{IsBestBack, best-reversed, first_least-some}, Pruning.open-first, Shrinking.{total-at-most, not-dear}}
use Rattle.segment_model.proofs.{Rows.{IsPlace, table-place, next-place, place-best, tail-best}, Growth.table-grows}

-- a mark, where it isn't behind place m
mark-within : ℕ → ℕ → ℕ
mark-within m u = cond (ltb m u) 0 u

mark-is : (m u : ℕ) → IsUnmarkedBehind m u (mark-within m u)
unfolding mark-within
mark-is m u = grind (arith, common_steps)

-- a place is settled by a last cut, or it isn't
settled-or : (len k s : ℕ) → IsSettled len k s ⊎ (¬ IsSettled len k s)
settled-or len k s = grind (arith, common_steps)

-- the marks of the first m + 1 places that aren't behind place m
marks-within : ℕ → List ℕ → List ℕ
marks-within m pruned = map (mark-within m) (take (m + 1) pruned)

module _ (cost : ℕ → ℕ → ℤ) (n : ℕ) (b : ℤ) (len : ℕ) (least : List ℤ) (back pruned : List ℕ) (merges : Merges cost n) (low : pos 0 ≤ℤ b) (length_some : 0 < len) (h : IsVerified cost n b len least back pruned) where
  marks-size : (m : ℕ) → m ≤ n → length (marks-within m pruned) ≡ m + 1
  unfolding marks-within
  marks-size m le = length-map (take (m + 1) pruned) (mark-within m) ∙ length-take (m + 1) pruned ∙ omega (arith, h.tables.pruned_length)

  mark-at : (m s : ℕ) → m ≤ n → s ≤ m → IsUnmarkedBehind m (slice_index pruned s) (slice_index (marks-within m pruned) s)
  unfolding marks-within
  mark-at m s le in' =
      let size : length (take (m + 1) pruned) ≡ m + 1 = length-take (m + 1) pruned ∙ omega (arith, h.tables.pruned_length) in
      rw (get_or-map (mark-within m) (take (m + 1) pruned) s 0 0 (omega (arith, size)), get_or-take (m + 1) pruned s 0 (omega arith)) (mark-is m (slice_index pruned s))

  least-first : (m s : ℕ) → s ≤ m → int_at (take (m + 1) least) s ≡ int_at least s
  least-first m s in' = get_or-take (m + 1) least s (pos 0) (omega arith)

  mark-low : (m s : ℕ) → m ≤ n → s ≤ m → slice_index pruned s ≤ m → slice_index (marks-within m pruned) s ≡ slice_index pruned s
  mark-low m s le in' low = elim (mark-at m s le in') [ inl stays ↦ stays.1 | inr goes ↦ absurd (omega (arith, goes.0)) ]

  mark-high : (m s : ℕ) → m ≤ n → s ≤ m → m < slice_index pruned s → slice_index (marks-within m pruned) s ≡ 0
  mark-high m s le in' high = elim (mark-at m s le in') [ inl stays ↦ absurd (omega (arith, stays.0)) | inr goes ↦ goes.1 ]

  module _ (m : ℕ) (le : m + 1 ≤ n) (table : IsTable cost m b len (take (m + 1) least) (take (m + 1) back) (marks-within m pruned)) where
    s-is : IsCandidate len (m + 1) (slice_index back (m + 1))
    s-is = h.before (m + 1) (omega arith) le

    s-in : slice_index back (m + 1) ≤ m
    s-in = omega (arith, s-is.0)

    open-at : (r : ℕ) → r ≤ m → IsOpenAt len (marks-within m pruned) r (m + 1) → IsOpenAt len pruned r (m + 1)
    open-at r in' is = elim (mark-at m r (omega arith) in') [
      | inl stays ↦ elim is [ inl none ↦ inl (sym stays.1 ∙ none) | inr late ↦ inr (omega (arith, late, stays.1)) ]
      | inr goes ↦ inr (omega (arith, goes.0, length_some))
    ]

    found : IsFirstLeast cost len (int_at (take (m + 1) least)) (m + 1) (slice_index back (m + 1))
    found =
        open-first cost m b len (take (m + 1) least) (take (m + 1) back) (marks-within m pruned) (slice_index back (m + 1)) (λ s u t lo hi fits. merges s u t lo hi (omega (arith, fits, le))) low table s-is
        (λ r is open'.
        let in' : r ≤ m = omega (arith, is.0) in
        let bound = h.at_most r (m + 1) is le (open-at r in' open') in
        let made = h.made (m + 1) (omega arith) le in
        rw (least-first m (slice_index back (m + 1)) s-in, least-first m r in') (omega (arith, ints, bound, made)))
        (λ r lt is open'.
        let in' : r ≤ m = omega (arith, is.0) in
        let bound = h.earlier r (m + 1) lt is le (open-at r in' open') in
        let made = h.made (m + 1) (omega arith) le in
        rw (least-first m (slice_index back (m + 1)) s-in, least-first m r in') (omega (arith, ints, bound, made)))

    x-is : int_at least (m + 1) ≡ int_at (take (m + 1) least) (slice_index back (m + 1)) +ℤ cost (slice_index back (m + 1)) (m + 1) +ℤ b
    x-is = rw (least-first m (slice_index back (m + 1)) s-in) (h.made (m + 1) (omega arith) le)

    more-least : take (m + 1 + 1) least ≡ take (m + 1) least ++ int_at least (m + 1) ∷ []
    more-least = take_more least (m + 1) (pos 0) (omega (arith, h.tables.least_length))

    more-back : take (m + 1 + 1) back ≡ take (m + 1) back ++ slice_index back (m + 1) ∷ []
    more-back = take_more back (m + 1) 0 (omega (arith, h.tables.back_length))

    now-at : (v : ℕ) → v ≤ m + 1 → int_at (take (m + 1) least ++ int_at least (m + 1) ∷ []) v ≡ int_at least v
    now-at v in' = ap (λ (xs : List ℤ). int_at xs v) (sym more-least) ∙ get_or-take (m + 1 + 1) least v (pos 0) (omega arith)

    dear-here : (s : ℕ) → s ≤ m → IsDear cost len least s (m + 1) → IsDear cost len (take (m + 1) least ++ int_at least (m + 1) ∷ []) s (m + 1)
    dear-here s in' dear = (dear.0, rw (now-at (m + 1) (omega arith), now-at s (omega arith)) dear.1)

    dear-there : (s : ℕ) → s ≤ m → IsDear cost len (take (m + 1) least ++ int_at least (m + 1) ∷ []) s (m + 1) → IsDear cost len least s (m + 1)
    dear-there s in' dear = (dear.0, rw (now-at (m + 1) (omega arith), now-at s (omega arith)) at dear.1)

    not-dear-here : (s : ℕ) → IsSettled len (slice_index back (m + 1)) s → s ≤ m → ¬ IsDear cost len (take (m + 1) least ++ int_at least (m + 1) ∷ []) s (m + 1)
    not-dear-here s settled in' =
        not-dear cost m b len (take (m + 1) least) (take (m + 1) back) (marks-within m pruned) (slice_index back (m + 1)) (int_at least (m + 1))
        (λ r u t lo hi fits. merges r u t lo hi (omega (arith, fits, le))) low table x-is s in' settled

    -- a place without a mark before this one that has none here isn't dear here, and one that has is
    unmarked-cheap : (s : ℕ) → s ≤ m → IsUnmarkedBefore pruned s (m + 1) → slice_index pruned s ≢ m + 1 → ¬ IsDear cost len (take (m + 1) least ++ int_at least (m + 1) ∷ []) s (m + 1)
    unmarked-cheap s in' open' apart dear = elim (settled-or len (slice_index back (m + 1)) s) [
      | inr free ↦ apart ((h.dear s (m + 1) (omega arith) le open' free).0 (dear-there s in' dear))
      | inl settled ↦ not-dear-here s settled in' dear
    ]

    marked-dear : (s : ℕ) → s ≤ m → IsUnmarkedBefore pruned s (m + 1) → slice_index pruned s ≡ m + 1 → IsDear cost len (take (m + 1) least ++ int_at least (m + 1) ∷ []) s (m + 1)
    marked-dear s in' open' at = elim (settled-or len (slice_index back (m + 1)) s) [
      | inr free ↦ dear-here s in' ((h.dear s (m + 1) (omega arith) le open' free).1 at)
      | inl settled ↦ absurd (h.cheap s (m + 1) (omega arith) le open' settled at)
    ]

    mark-of : (s : ℕ) → s < m + 1 → IsMarkedAt cost len (take (m + 1) least ++ int_at least (m + 1) ∷ []) (m + 1) s (slice_index (marks-within m pruned) s) (slice_index (marks-within (m + 1) pruned) s)
    mark-of s lt =
        let in' : s ≤ m = omega arith in
        elim (h.marked s (omega arith)) [
          | inl none ↦
              let low = mark-low m s (omega arith) in' (omega (arith, none)) in
              let low' = mark-low (m + 1) s le (omega arith) (omega (arith, none)) in
              inr (low' ∙ sym low, λ z. unmarked-cheap s in' (inl none) (λ same. absurd (omega (arith, same, none))))
          | inr some ↦ elim (cases_lt m (slice_index pruned s)) [
            | inr within ↦
                let low = mark-low m s (omega arith) in' within in
                let low' = mark-low (m + 1) s le (omega arith) (omega (arith, within)) in
                inr (low' ∙ sym low, λ z. absurd (omega (arith, z, low, some.0)))
            | inl behind ↦ elim (cases_eq (slice_index pruned s) (m + 1)) [
              | inl at ↦
                  let high = mark-high m s (omega arith) in' behind in
                  let low' = mark-low (m + 1) s le (omega arith) (omega (arith, at)) in
                  inl (high, marked-dear s in' (inr (omega (arith, at))) at, low' ∙ at)
              | inr apart ↦
                  let high = mark-high m s (omega arith) in' behind in
                  let high' = mark-high (m + 1) s le (omega arith) (omega (arith, behind, apart)) in
                  inr (high' ∙ sym high, λ z. unmarked-cheap s in' (inr (omega (arith, behind))) apart)
            ]
          ]
        ]

    none-at-end : slice_index (marks-within (m + 1) pruned) (m + 1) ≡ 0
    none-at-end = elim (h.marked (m + 1) le) [
      | inl none ↦ mark-low (m + 1) (m + 1) le (omega arith) (omega (arith, none)) ∙ none
      | inr some ↦ mark-high (m + 1) (m + 1) le (omega arith) some.0
    ]

    step : IsTable cost (m + 1) b len (take (m + 1 + 1) least) (take (m + 1 + 1) back) (marks-within (m + 1) pruned)
    step =
        rw (more-least, more-back)
        (table-grows cost m b len (take (m + 1) least) (take (m + 1) back) (marks-within m pruned) (marks-within (m + 1) pruned) (slice_index back (m + 1)) (int_at least (m + 1)) table found x-is
        (record { marked_length = marks-size (m + 1) le; marked = mark-of; none_at_end = none-at-end }))

  verified-upto : (m : ℕ) → m ≤ n → IsTable cost m b len (take (m + 1) least) (take (m + 1) back) (marks-within m pruned)
  verified-upto zero le = record {
    tables = record {
      least_length = length-take 1 least ∙ omega (arith, h.tables.least_length);
      back_length = length-take 1 back ∙ omega (arith, h.tables.back_length);
      pruned_length = marks-size 0 le;
      least_at_none = least-first 0 0 (omega arith) ∙ h.tables.least_at_none;
      back_at_none = get_or-take 1 back 0 0 (omega arith) ∙ h.tables.back_at_none;
    };
    row = λ t some in'. absurd (omega arith);
    pruned_at = grind (arith, common_steps, mark-at, slice_index, marks-within, pruned);
  }
  verified-upto (suc m) le =
      let e : m + 1 ≡ suc m = omega arith in
      subst (λ (k : ℕ). IsTable cost k b len (take (k + 1) least) (take (k + 1) back) (marks-within k pruned)) e (step m (omega arith) (verified-upto m (omega arith)))

pub verified-table : VerifiedIsTable
verified-table cost n b len least back pruned merges low some h =
    let is = verified-upto cost n b len least back pruned merges low some h n (omega arith) in
    let whole : take (n + 1) least ≡ least = take_all (n + 1) least (omega (arith, h.tables.least_length)) in
    record {
      tables = h.tables;
      row = λ t some le. rw (get_or-take (n + 1) least t (pos 0) (omega arith), get_or-take (n + 1) back t 0 (omega arith)) at (is.row t some le);
      pruned_at = λ s le.
          let at-most : slice_index pruned s ≤ n = elim (h.marked s le) [ inl none ↦ omega (arith, none) | inr some ↦ some.1 ] in
          let same = mark-low cost n b len least back pruned merges low some h n s (omega arith) le at-most in
          rw (same, whole) at (is.pruned_at s le);
    }

place-unique : (cost : ℕ → ℕ → ℤ) (b : ℤ) (len t : ℕ) (l l' : ℤ) (k k' : ℕ) → 0 < t → IsPlace cost b len t l k → IsPlace cost b len t l' k' → (l ≡ l') × (k ≡ k')
place-unique cost b len t l l' k k' p h h' = grind (arith, common_steps)

module _ (cost : ℕ → ℕ → ℤ) (n : ℕ) (b : ℤ) (len : ℕ) (least : List ℤ) (back pruned : List ℕ) (h : IsTable cost n b len least back pruned) where
  -- the first least place of a table's place is its last cut
  table-first : (t : ℕ) → 0 < t → t ≤ n
      → IsFirstLeast cost len (int_at least) t (slice_index back t) × (int_at least t ≡ int_at least (slice_index back t) +ℤ cost (slice_index back t) t +ℤ b)
  table-first t p le =
      let some = first_least-some cost len (int_at least) t p in
      let place = next-place cost b len (int_at least) (slice_index back) t (λ s lt. table-place cost n b len least back pruned h s (omega arith)) some.0 some.1 in
      let same = place-unique cost b len t (int_at least t) (int_at least some.0 +ℤ cost some.0 t +ℤ b) (slice_index back t) some.0 p (table-place cost n b len least back pruned h t le) place in
      rw same.1 (some.1, same.0)

  -- no place that the last cut settles is dear
  cheap-where : Merges cost n → pos 0 ≤ℤ b → (s t : ℕ) → IsSettled len (slice_index back t) s → s < t → t ≤ n → ¬ IsDear cost len least s t
  cheap-where merges low s t settled lt le dear =
      let first = table-first t (omega arith) le in
      elim settled [
        | inr is ↦ absurd (omega (
          arith,
          ints,
          low,
          dear.1,
          first.1,
          total-at-most cost n b len least back pruned h (slice_index back t) s is (omega arith),
          merges (slice_index back t) s t (omega (arith, is.0)) (omega (arith, lt)) le,
        ))
        | inl e ↦
            let made = rw e at first.1 in
            absurd (omega (arith, ints, low, dear.1, made))
      ]

pub table-verified : TableIsVerified
table-verified cost n b len least back pruned merges low h = record {
  tables = h.tables;
  before = λ t some le. (table-first cost n b len least back pruned h t some le).0.candidate;
  made = λ t some le. (table-first cost n b len least back pruned h t some le).1;
  at_most = λ s t is le open'. total-at-most cost n b len least back pruned h s t is le;
  earlier = λ s t lt is le open'.
      let some : 0 < t = omega (arith, is.0) in
      let first = table-first cost n b len least back pruned h t some le in
      let less = first.0.earlier s lt is in
      omega (arith, ints, less, first.1);
  marked = λ s le. elim (h.pruned_at s le) [ inl none ↦ inl none.0 | inr some ↦ inr (some.0, some.1) ];
  dear = λ s t above le open' free.
      elim (h.pruned_at s (omega (arith, above, le))) [
        | inl none ↦ ((λ dear. absurd (none.1 t above le dear)), (λ at. absurd (omega (arith, none.0, at, above))))
        | inr some ↦ (
          (λ dear. elim open' [
            | inl zero' ↦ absurd (omega (arith, zero', some.0))
            | inr behind ↦ elim (cases_eq (slice_index pruned s) t) [
              | inl at ↦ at
              | inr apart ↦ absurd (some.3 t above (omega (arith, behind, apart)) dear)
            ]
          ]),
          (λ at. rw at at some.2),
        )
      ];
  cheap = λ s t above le open' settled at.
      elim (h.pruned_at s (omega (arith, above, le))) [
        | inl none ↦ absurd (omega (arith, none.0, at, above))
        | inr some ↦ cheap-where cost n b len least back pruned h merges low s t settled above le (rw at at some.2)
      ];
}

best-back-walks : (cost : ℕ → ℕ → ℤ) (n : ℕ) (b : ℤ) (len : ℕ) (least : List ℤ) (back pruned : List ℕ) → IsTable cost n b len least back pruned → (t : ℕ) (cs : List ℕ) → t ≤ n
    → IsBestBack cost b len t cs → IsWalk back t cs
best-back-walks cost n b len least back pruned h t [] le best = place-best cost b len t (int_at least t) (slice_index back t) (table-place cost n b len least back pruned h t le) [] best
best-back-walks cost n b len least back pruned h t (c ∷ cs) le best = (
  place-best cost b len t (int_at least t) (slice_index back t) (table-place cost n b len least back pruned h t le) (c ∷ cs) best,
  best.falls.0,
  best-back-walks cost n b len least back pruned h c cs (omega (arith, best.falls.1, le)) (tail-best cost b len t c cs best),
)

pub best-is-walk : BestIsWalk
best-is-walk cost n b len least back pruned h t cuts le best = best-back-walks cost n b len least back pruned h t (reverse cuts) le (best-reversed cost b len t cuts best)
