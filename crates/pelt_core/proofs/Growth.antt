-- The pruned table with one place more.
use Rattle.std.proofs.Common.{◌≡◌, ◌≢◌, ℕ, ℤ, zero, suc, ◌+◌, ◌-◌, ◌^◌, ◌<◌, ◌≤◌, Bool, ◌&&◌, List, [], ◌∷◌, ◌++◌, length, take, get_or, slice_index, filter, ◌⊎◌, inl, inr, refl, sym, ap, ◌∙◌, pos, neg_ℤ, ◌+ℤ◌, ◌≤ℤ◌, ◌<ℤ◌, arith}
use Rattle.std.proofs.lemmas.{Int.ints, Bool.{cases_lt, cases_eq}, List.{length-append, get_or_append_left, get_or_push, get_or_read}, Grind.common_steps}
use Rattle.segment_model.specs.{Cuts.Merges, Laws.{TotalsAreInRange, OpenIsFirstLeast, MarkMayBegin, NotDearWhereSettled}}
use Rattle.segment_model.specs.Tables.{int_at, MayBegin, IsCandidate, IsUnmarkedBehind, IsOpenAt, IsSettled, IsTable, IsFirstLeast, IsMarkedAt, AreMarkedAt}
use Rattle.pelt_core.specs.{Candidates.{begins, stays, open_places, AreTotals, total_from, AreLookedAt, IsAmong, IsNear}, Bounds.AreInRange}
use Rattle.pelt_core.proofs.Open.{IsUnmarkedTo, chosen-in, chosen-find, chosen-rising, chosen-few, chosen-next, chosen-skip, chosen-same, chosen-filter, stays-alike, stays-more, open-when, open-is, begins-not}

module _ (cost : ℕ → ℕ → ℤ) (n : ℕ) (b : ℤ) (len g : ℕ) (least : List ℤ) (back pruned : List ℕ) (cs : List ℕ)
    (h : IsTable cost n b len least back pruned) (some-length : 0 < len) (swept : g ≤ n + 1 - len) (are : cs ≡ open_places len g pruned (n + 1 - len + 1)) where
  test : ℕ → Bool
  test s = begins len s && stays g pruned s

  size-is : length cs ≡ length (open_places len g pruned (n + 1 - len + 1))
  size-is = ap length are

  read-place : (i : ℕ) → slice_index cs i ≡ slice_index (open_places len g pruned (n + 1 - len + 1)) i
  read-place i = ap (λ (ps : List ℕ). slice_index ps i) are

  candidate-in : (i : ℕ) → i < length cs → (slice_index cs i ≤ n + 1 - len) × MayBegin len (slice_index cs i) × IsUnmarkedTo g pruned (slice_index cs i)
  candidate-in i lt =
      let is = chosen-in (λ s. begins len s && stays g pruned s) (n + 1 - len + 1) i (omega (arith, size-is)) in
      let may = open-is len g pruned (slice_index (open_places len g pruned (n + 1 - len + 1)) i) is.1 in
      rw (read-place i) (omega (arith, is.0), may.0, may.1)

  pub candidates-below : (i : ℕ) → i < length cs → slice_index cs i < n + 1
  candidates-below i lt = omega (arith, (candidate-in i lt).0, some-length)

  pub candidates-begin : (i : ℕ) → i < length cs → MayBegin len (slice_index cs i)
  candidates-begin i lt = (candidate-in i lt).1

  pub candidates-are : (i : ℕ) → i < length cs → IsCandidate len (n + 1) (slice_index cs i)
  candidates-are i lt =
      let is = candidate-in i lt in (
        omega (arith, is.0, some-length),
        elim is.1 [
          | inl none ↦ inl none
          | inr enough ↦ elim (cases_eq (slice_index cs i) 0) [
            | inl none ↦ inl none
            | inr apart ↦ inr (enough, omega (arith, is.0, apart))
          ]
        ],
      )

  pub candidates-rising : (i j : ℕ) → i < j → j < length cs → slice_index cs i < slice_index cs j
  candidates-rising i j lt in' = omega (arith, read-place i, read-place j, chosen-rising (λ s. begins len s && stays g pruned s) (n + 1 - len + 1) i j lt (omega (arith, size-is)))

  pub candidates-few : length cs ≤ n + 1
  candidates-few = omega (arith, size-is, chosen-few (λ s. begins len s && stays g pruned s) (n + 1 - len + 1), some-length)

  -- each place at which a segment may begin and that has no mark that was seen is a candidate
  candidate-at : (s : ℕ) → s ≤ n + 1 - len → MayBegin len s → IsUnmarkedTo g pruned s → (i : ℕ) × (i < length cs) × (slice_index cs i ≡ s)
  candidate-at s le may un =
      let there = chosen-find (λ s. begins len s && stays g pruned s) (n + 1 - len + 1) s (omega arith) (open-when len g pruned s may (omega (arith, le, h.tables.pruned_length, some-length)) un) in
      (there.0, omega (arith, size-is, there.1), read-place there.0 ∙ there.2)

  -- each open candidate of the next place is one
  pub candidate-of : (s : ℕ) → IsCandidate len (n + 1) s → IsOpenAt len pruned s (n + 1) → (i : ℕ) × (i < length cs) × (slice_index cs i ≡ s)
  candidate-of s is open' = grind (arith, common_steps, candidate-at, len, pruned, n, g, cases_eq, slice_index, swept)

  pub candidates-some : pos 0 ≤ℤ b → MarkMayBegin → 0 < length cs
  candidates-some low mark-begins = elim (cases_lt (n + 1 - len) len) [
    | inr enough ↦
        let mark = h.pruned_at (n + 1 - len) (omega (arith, some-length)) in
        let there = candidate-at (n + 1 - len) (omega arith) (inr (omega (arith, enough))) (elim mark [ inl none ↦ inl none.0 | inr some ↦ inr (omega (arith, some.0, swept)) ]) in
        omega (arith, there.1)
    | inl short ↦
        let mark = mark-begins cost n b len least back pruned low h 0 (omega arith) in
        let there = candidate-at 0 (omega arith) (inl refl) (elim mark [ inl none ↦ inl none | inr enough ↦ inr (omega (arith, enough, swept, short)) ]) in
        omega (arith, there.1)
  ]

  pub totals : TotalsAreInRange → pos 0 ≤ℤ b → b ≤ℤ pos (10 ^ 36) → AreInRange cost n → AreTotals least
  totals in_range low high range s lt =
      let there = in_range cost n (10 ^ 37) b len least back pruned low range h s (omega (arith, h.tables.least_length)) in
      (omega (arith, ints, high, there.0), there.1)

  -- the first least of the candidates is the first least of all
  pub first-of-candidates : OpenIsFirstLeast → Merges cost (n + 1) → pos 0 ≤ℤ b → (best : ℕ) → best < length cs
      → ((i : ℕ) → i < length cs → total_from cost least (n + 1) (slice_index cs best) ≤ℤ total_from cost least (n + 1) (slice_index cs i))
      → ((i : ℕ) → i < best → total_from cost least (n + 1) (slice_index cs best) <ℤ total_from cost least (n + 1) (slice_index cs i))
      → IsFirstLeast cost len (int_at least) (n + 1) (slice_index cs best)
  first-of-candidates open-first merges low best in' at_most earlier =
      open-first cost n b len least back pruned (slice_index cs best) merges low h (candidates-are best in')
      (λ r is open'. let there = candidate-of r is open' in rw (← there.2) (at_most there.0 there.1))
      (λ r lt is open'.
      let there = candidate-of r is open' in
      rw (← there.2) (earlier there.0 (before there.0 there.1 (omega (arith, lt, there.2)))))
    where
      before : (i : ℕ) → i < length cs → slice_index cs i < slice_index cs best → i < best
      before i below lt = elim (cases_lt i best) [
        | inl is_before ↦ is_before
        | inr behind ↦ elim (cases_eq i best) [
          | inl at ↦ let lt' : slice_index cs best < slice_index cs best = rw at at lt in absurd (omega arith)
          | inr apart ↦ absurd (omega (arith, lt, candidates-rising best i (omega arith) below))
        ]
      ]

  -- the same for a place t that is n + 1
  pub first-at : OpenIsFirstLeast → (t : ℕ) → n + 1 ≡ t → Merges cost t → pos 0 ≤ℤ b → (best : ℕ) → best < length cs
      → ((i : ℕ) → i < length cs → total_from cost least t (slice_index cs best) ≤ℤ total_from cost least t (slice_index cs i))
      → ((i : ℕ) → i < best → total_from cost least t (slice_index cs best) <ℤ total_from cost least t (slice_index cs i))
      → IsFirstLeast cost len (int_at least) t (slice_index cs best)
  first-at open-first t e merges low best in' at_most earlier =
      rw (← e) (first-of-candidates open-first (rw (← e) at merges) low best in' (rw (← e) at at_most) (rw (← e) at earlier))

  -- the marks, where the places near the last cut were looked at
  module _ (merges : Merges cost (n + 1)) (low : pos 0 ≤ℤ b) (not_dear : NotDearWhereSettled) (best : ℕ) (in' : best < length cs) (x : ℤ)
      (x_is : x ≡ int_at least (slice_index cs best) +ℤ cost (slice_index cs best) (n + 1) +ℤ b)
      (marked : List ℕ) (m : AreLookedAt cost len (least ++ x ∷ []) (n + 1) (IsNear cs best len (slice_index cs best)) (pruned ++ 0 ∷ []) marked) where
    size : length marked ≡ n + 2
    size = omega (arith, m.size, length-append pruned (0 ∷ []), h.tables.pruned_length)

    was : (s : ℕ) → s ≤ n → slice_index (pruned ++ 0 ∷ []) s ≡ slice_index pruned s
    was s le = get_or_append_left pruned (0 ∷ []) 0 s (omega (arith, h.tables.pruned_length))

    -- place s is some candidate before the last cut, or none of them
    search-for : (s : ℕ) (k : ℕ) → k ≤ best → IsAmong cs k s ⊎ ((i : ℕ) → i < k → slice_index cs i ≢ s)
    search-for s zero le = inr (λ i lt. absurd (omega arith))
    search-for s (suc k) le = elim (search-for s k (omega arith)) [
      | inl found ↦ inl (found.0, omega (arith, found.1), found.2)
      | inr away ↦ elim (cases_eq (slice_index cs k) s) [
        | inl at ↦ inl (k, omega arith, at)
        | inr apart ↦ inr (λ i lt same. elim (cases_eq i k) [ inl here ↦ apart (rw here at same) | inr before ↦ away i (omega arith) same ])
      ]
    ]

    -- a place without a mark is near the last cut, or settled by it
    near-or : (s : ℕ) → s ≤ n → MayBegin len s → slice_index pruned s ≡ 0 → IsNear cs best len (slice_index cs best) s ⊎ IsSettled len (slice_index cs best) s
    near-or s le may none = elim (search-for s best (omega arith)) [
      | inl found ↦ inl (inl found)
      | inr away ↦ elim (cases_lt s (slice_index cs best)) [
        | inl before ↦
            let there = candidate-at s (omega (arith, before, (candidate-in best in').0)) may (inl none) in
            elim (cases_lt there.0 best) [
              | inl front ↦ absurd (away there.0 front there.2)
              | inr back' ↦ elim (cases_eq there.0 best) [
                | inl at ↦ absurd (omega (arith, before, there.2, ap (slice_index cs) at))
                | inr apart ↦ absurd (omega (arith, before, there.2, candidates-rising best there.0 (omega arith) there.1))
              ]
            ]
        | inr from ↦ elim (cases_eq (slice_index cs best) s) [
          | inl same ↦ inr (inl same)
          | inr apart ↦ elim (candidates-begin best in') [
            | inl zero' ↦ inr (inr (omega (arith, from, apart), inl zero'))
            | inr enough ↦ elim (cases_lt s (slice_index cs best + len)) [
              | inl close ↦ inl (inr (omega (arith, enough, some-length), omega (arith, from, apart), close))
              | inr far ↦ inr (inr (omega (arith, from, apart), inr (enough, omega (arith, far))))
            ]
          ]
        ]
      ]
    ]

    mark-of : (s : ℕ) → s < n + 1 → IsMarkedAt cost len (least ++ x ∷ []) (n + 1) s (slice_index pruned s) (slice_index marked s)
    mark-of s lt =
        let le : s ≤ n = omega arith in
        elim (m.each s) [
          | inr mark ↦ let mark' = rw (was s le) at mark in mark'
          | inl same ↦ inr (
            same ∙ was s le,
            λ none dear. elim (near-or s le dear.0 none) [
              | inr settled ↦ not_dear cost n b len least back pruned (slice_index cs best) x merges low h x_is s le settled dear
              | inl near ↦ elim (m.all s near) [
                | inl marked' ↦ absurd (omega (arith, marked'.2, same, was s le, none))
                | inr kept ↦ kept.1 (was s le ∙ none) dear
              ]
            ],
          )
        ]

    pub marks : AreMarkedAt cost len (least ++ x ∷ []) (n + 1) pruned marked
    marks = record {
      marked_length = omega (arith, size);
      marked = mark-of;
      none_at_end = m.behind (n + 1) (omega arith) ∙ get_or_push pruned 0 0 (n + 1) h.tables.pruned_length;
    }

    -- marks up to place n count as before
    same-marks : (s : ℕ) → s ≤ n → (IsUnmarkedTo g pruned s → IsUnmarkedTo g marked s) × (IsUnmarkedTo g marked s → IsUnmarkedTo g pruned s)
    same-marks s le = elim (mark-of s (omega arith)) [
      | inl dear ↦ ((λ un. inr (omega (arith, dear.2, swept, some-length))), (λ un. inl dear.0))
      | inr kept ↦ ((λ un. rw kept.0 un), (λ un. rw kept.0 at un))
    ]

    -- where none is dropped, the candidates are the same
    pub kept-are : cs ≡ open_places len g marked (n + 1 - len + 1)
    kept-are =
        are ∙ chosen-same (λ s. begins len s && stays g pruned s) (λ s. begins len s && stays g marked s) (n + 1 - len + 1)
        (λ s lt.
        let le : s ≤ n = omega (arith, lt, some-length) in
        let alike = same-marks s le in
        ap (λ (y : Bool). begins len s && y) (stays-alike g g pruned marked s (omega (arith, le, h.tables.pruned_length)) (omega (arith, le, size)) alike.0 alike.1))

    -- where those are dropped that have a mark up to a later place, the others are left
    pub dropped-are : (g' : ℕ) → g ≤ g' → filter (stays g' marked) cs ≡ open_places len g' marked (n + 1 - len + 1)
    dropped-are g' le' =
        ap (filter (stays g' marked)) are ∙ chosen-filter (λ s. begins len s && stays g pruned s) (stays g' marked) (λ s. begins len s && stays g' marked s) (n + 1 - len + 1)
        (λ s lt.
        let le : s ≤ n = omega (arith, lt, some-length) in
        stays-more len g g' pruned marked s (omega (arith, le, h.tables.pruned_length))
        (λ un. (same-marks s le).1 (elim un [ inl none ↦ inl none | inr behind ↦ inr (omega (arith, behind, le')) ])))

    -- the next candidate, where a segment may begin there; else the candidates stay
    pub next-is : (g' : ℕ) → g' ≤ n + 2 - len → (left : List ℕ) → left ≡ open_places len g' marked (n + 1 - len + 1) → len ≤ n + 2 - len
        → left ++ (n + 2 - len) ∷ [] ≡ open_places len g' marked (n + 2 - len + 1)
    next-is g' placed left are' enough =
        let e : n + 1 - len + 1 ≡ n + 2 - len = omega (arith, enough, some-length) in
        let place : n + 2 - len ≤ n + 1 = omega (arith, some-length) in
        ap (λ (ps : List ℕ). ps ++ (n + 2 - len) ∷ []) (are' ∙ ap (open_places len g' marked) e)
        ∙ sym (chosen-next (λ s. begins len s && stays g' marked s) (n + 2 - len)
        (open-when len g' marked (n + 2 - len) (inr enough) (omega (arith, size, place)) (mark-behind (n + 2 - len) place placed)))
      where
        mark-behind : (s : ℕ) → s ≤ n + 1 → g' ≤ s → IsUnmarkedTo g' marked s
        mark-behind s le from = elim (cases_eq s (n + 1)) [
          | inl at ↦ inl (rw at marks.none_at_end)
          | inr apart ↦ elim (mark-of s (omega arith)) [
            | inl dear ↦ inr (omega (arith, dear.2, from, apart, le))
            | inr kept ↦ elim (h.pruned_at s (omega arith)) [
              | inl none ↦ inl (kept.0 ∙ none.0)
              | inr some ↦ inr (omega (arith, kept.0, some.0, from))
            ]
          ]
        ]

    pub none-next : (g' : ℕ) (left : List ℕ) → left ≡ open_places len g' marked (n + 1 - len + 1) → n + 2 - len < len → left ≡ open_places len g' marked (n + 2 - len + 1)
    none-next g' left are' short = elim (cases_lt (n + 1) len) [
      | inl before ↦
          let e : n + 1 - len + 1 ≡ n + 2 - len + 1 = omega arith in
          are' ∙ ap (open_places len g' marked) e
      | inr from ↦
          let e : n + 1 - len + 1 ≡ n + 2 - len = omega (arith, from) in
          are' ∙ ap (open_places len g' marked) e
          ∙ sym (chosen-skip (λ s. begins len s && stays g' marked s) (n + 2 - len) (rw (begins-not len (n + 2 - len) (omega (arith, from)) short) refl))
    ]

-- the totals of a table, and that of one place more
pub totals-next : TotalsAreInRange → (cost : ℕ → ℕ → ℤ) (n : ℕ) (b : ℤ) (len : ℕ) (least : List ℤ) (back pruned : List ℕ) → IsTable cost n b len least back pruned
    → pos 0 ≤ℤ b → b ≤ℤ pos (10 ^ 36) → (t : ℕ) → n + 1 ≡ t → AreInRange cost t → (s : ℕ) (x : ℤ) → IsFirstLeast cost len (int_at least) t s
    → x ≡ int_at least s +ℤ cost s t +ℤ b → AreTotals (least ++ x ∷ [])
totals-next in_range cost n b len least back pruned h low high t e range s x found x_is r lt =
    let before : (q : ℕ) → q ≤ n → (neg_ℤ b ≤ℤ int_at least q) × (int_at least q ≤ℤ pos (10 ^ 37)) =
    in_range cost n (10 ^ 37) b len least back pruned low (λ p q le in'. range p q le (omega arith)) h in
    elim (cases_eq r (n + 1)) [
      | inl at ↦
          let pushed : int_at (least ++ x ∷ []) (n + 1) ≡ x = get_or_push least x (pos 0) (n + 1) h.tables.least_length in
          let from = range s t (omega (arith, found.candidate.0)) (omega arith) in
          let there = before s (omega (arith, found.candidate.0, e)) in
          let whole = range 0 t (omega arith) (omega arith) in
          let most = found.at_most 0 (omega (arith, e), inl refl) in
          rw (at, pushed) (omega (arith, ints, x_is, there.0, from.0, high), omega (arith, ints, x_is, most, h.tables.least_at_none, whole.1))
      | inr apart ↦
          let in' : r < length least = omega (arith, lt, length-append least (x ∷ []), h.tables.least_length) in
          let there = before r (omega (arith, in', h.tables.least_length)) in
          rw (get_or_append_left least (x ∷ []) (pos 0) r in') (omega (arith, ints, high, there.0), there.1)
    ]

-- what was read at a place that is t
pub read-at : (xs : List ℤ) (t place : ℕ) (v : ℤ) → place ≡ t → t < length xs → v ≡ get_or xs place v → v ≡ int_at xs t
read-at xs t place v e lt read = get_or_read xs t v lt (rw e at read) (pos 0)

-- equal lists have the same table, candidates and bounds
pub table-by : (cost : ℕ → ℕ → ℤ) (n : ℕ) (b : ℤ) (len : ℕ) (least least' : List ℤ) (back back' pruned pruned' : List ℕ) → least' ≡ least → back' ≡ back → pruned' ≡ pruned
    → IsTable cost n b len least back pruned → IsTable cost n b len least' back' pruned'
table-by cost n b len least least' back back' pruned pruned' e f g h = rw (e, f, g) h

pub candidates-by : (len g : ℕ) (cs cs' : List ℕ) (pruned pruned' : List ℕ) (n : ℕ) → cs' ≡ cs → pruned' ≡ pruned → cs ≡ open_places len g pruned n → cs' ≡ open_places len g pruned' n
candidates-by len g cs cs' pruned pruned' n e f h = rw (e, f) h

-- no more open places than places, and each lies below the end
pub open-few : (len g : ℕ) (pruned : List ℕ) (n : ℕ) (cs : List ℕ) → cs ≡ open_places len g pruned n → length cs ≤ n
open-few len g pruned n cs are = omega (arith, ap length are, chosen-few (λ s. begins len s && stays g pruned s) n)

pub places-below : (len g : ℕ) (pruned : List ℕ) (n : ℕ) (cs : List ℕ) → cs ≡ open_places len g pruned n → (i : ℕ) → i < length cs → slice_index cs i < n
places-below len g pruned n cs are i lt = grind (arith, common_steps, length, slice_index, chosen-in)

-- the open places up to the last one from which a segment may reach place t are candidates there
pub open-candidates : (len g : ℕ) (pruned : List ℕ) (t : ℕ) (cs : List ℕ) → 0 < len → 0 < t → cs ≡ open_places len g pruned (t - len + 1) → (i : ℕ) → i < length cs → IsCandidate len t (slice_index cs i)
open-candidates len g pruned t cs some-length some are i lt = grind (arith, common_steps, length, chosen-in, open-is, slice_index, cases_eq)

-- a mark that was read from the first places
pub unmarked-at : (k : ℕ) (front old new : List ℕ) → front ≡ take (k + 1) old → (s : ℕ) → s ≤ k → IsUnmarkedBehind k (slice_index front s) (slice_index new s)
    → IsUnmarkedBehind k (slice_index old s) (slice_index new s)
unmarked-at k front old new e s le mark = grind (arith, common_steps)
