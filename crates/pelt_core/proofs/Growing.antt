-- The row of the last of some positions: the rows before it, and what they come to with it.
use Rattle.std.proofs.Common.{◌≡◌, ◌≢◌, ℕ, ℤ, Bool, true, false, List, [], ◌∷◌, ◌++◌, ◌+◌, ◌-◌, ◌*◌, ◌<◌, ◌≤◌, length, slice_index, filter, inl, inr, refl, ap, ◌∙◌, ◌+ℤ◌, arith}
use Rattle.std.proofs.lemmas.{Int.ints, Bool.{cases_lt, cases_Bool}, List.length-append, Grind.common_steps}
use Rattle.segment_model.specs.{Cuts.Merges, Tables.{int_at, IsCandidate, IsTable, IsFirstLeast}}
use Rattle.segment_model.specs.{Laws.{TotalsAreInRange, TableGrows, MarkMayBegin, NotDearWhereSettled}, Values.cost_between}
use Rattle.pelt_core.specs.declared.{bounds.Bound.Bound, bounds.Found.Found, rows.Rows.Rows}
use Rattle.pelt_core.specs.Candidates.{stays, open_places, AreTotals, AreCandidates, AreLookedAt, IsNear}
use Rattle.pelt_core.specs.{Bounds.{bound_at, HaveBounds, IsMade, IsLowered, AreInRange}, Rows.{CanGrow, IsAdmitted}}
use Rattle.pelt_core.proofs.Blocks.{apart-same, bounds-agree, bounds-from, bounds-reset, bounds-push, bounds-by, least-made}
use Rattle.pelt_core.proofs.Growth.{candidates-below, candidates-are, candidates-few, candidates-some, totals, totals-next, marks, kept-are, dropped-are, next-is, none-next, open-few, open-candidates, places-below}

module _ {f : List ℤ → ℤ} {ps : List (List ℤ)} {b : ℤ} {rows : Rows} (h : CanGrow f ps b rows) where
  abbrev cost : ℕ → ℕ → ℤ
  cost = cost_between f ps

  abbrev least : List ℤ
  least = rows.least.items

  abbrev back : List ℕ
  back = rows.back.items

  abbrev pruned : List ℕ
  pruned = rows.pruned.items

  abbrev cs : List ℕ
  cs = rows.candidates.items

  pub last : length ps - 1 + 1 ≡ length ps
  last = omega (arith, h.some)

  pub least-size : length least ≡ length ps
  least-size = omega (arith, last, h.pruned.table.tables.least_length)

  pub below : (i : ℕ) → i < length cs → slice_index cs i < length ps
  below i lt = omega (arith, last, candidates-below cost (length ps - 1) b rows.length rows.swept least back pruned cs h.pruned.table h.pruned.length_from.0 h.pruned.swept h.pruned.candidates i lt)

  pub are : (i : ℕ) → i < length cs → IsCandidate rows.length (length ps) (slice_index cs i)
  are i lt =
      let is = candidates-are cost (length ps - 1) b rows.length rows.swept least back pruned cs h.pruned.table h.pruned.length_from.0 h.pruned.swept h.pruned.candidates i lt in
      rw last at is

  pub some : MarkMayBegin → 0 < length cs
  some mark_begins = candidates-some cost (length ps - 1) b rows.length rows.swept least back pruned cs h.pruned.table h.pruned.length_from.0 h.pruned.swept h.pruned.candidates h.low mark_begins

  pub few : length cs ≤ 16_384
  few = omega (arith, last, h.limits.few_positions, candidates-few cost (length ps - 1) b rows.length rows.swept least back pruned cs h.pruned.table h.pruned.length_from.0 h.pruned.swept h.pruned.candidates)

  -- the bounds hold for the last place too; apart is the last winner, or any candidate where it is none of them
  pub bounds-for : (guess : ℕ) → (rows.leader < length cs → guess ≡ rows.leader) → HaveBounds cost (length ps) least cs guess rows.bounds.items
  bounds-for guess same =
      apart-same cost (length ps) least cs rows.leader guess rows.bounds.items same
      (bounds-agree cost cost (length ps - 1) (length ps) least cs rows.leader rows.bounds.items (λ s t le fits. refl) (omega arith) h.pruned.bounds)

  module _ (range : AreInRange cost (length ps)) (in_range : TotalsAreInRange) where
    pub are-candidates : AreCandidates ps least cs
    are-candidates = record {
      totals = record {
        limits = h.limits;
        lengths = omega (arith, least-size);
        totals = totals cost (length ps - 1) b rows.length rows.swept least back pruned cs h.pruned.table h.pruned.length_from.0 h.pruned.swept h.pruned.candidates in_range h.low h.high (λ s t le fits. range s t le (omega (arith, fits, last)));
      };
      below = below;
    }

    module _ (found : Found) (first : IsFirstLeast cost rows.length (int_at least) (length ps) (slice_index cs found.index)) (made : IsMade cost least (length ps) cs found) where
      abbrev x : ℤ
      x = found.total +ℤ b

      pub x-is : x ≡ int_at least (slice_index cs found.index) +ℤ cost (slice_index cs found.index) (length ps) +ℤ b
      x-is = ap (λ (z : ℤ). z +ℤ b) made.exact

      pub next-totals : AreTotals (least ++ x ∷ [])
      next-totals = totals-next in_range cost (length ps - 1) b rows.length least back pruned h.pruned.table h.low h.high (length ps) last range (slice_index cs found.index) x first x-is

      pub next-size : length (least ++ x ∷ []) ≡ length ps + 1
      next-size = omega (arith, length-append least (x ∷ []), least-size)

      -- the same candidates, with the total of the last place too
      pub next-candidates : AreCandidates ps (least ++ x ∷ []) cs
      next-candidates = record { totals = record { limits = h.limits; lengths = omega (arith, next-size); totals = next-totals }; below = below }

-- a candidate was found for the last cut, and the places near it were looked at
pub record IsStep (f : List ℤ → ℤ) (ps : List (List ℤ)) (b : ℤ) (rows : Rows) (found : Found) (marked : List ℕ) : Type 0 where
  pub can : CanGrow f ps b rows
  pub range : AreInRange (cost_between f ps) (length ps)
  pub merges : Merges (cost_between f ps) (length ps)
  pub in_range : TotalsAreInRange
  pub not_dear : NotDearWhereSettled
  pub first : IsFirstLeast (cost_between f ps) rows.length (int_at rows.least.items) (length ps) (slice_index rows.candidates.items found.index)
  pub made : IsMade (cost_between f ps) rows.least.items (length ps) rows.candidates.items found
  pub looked : AreLookedAt (cost_between f ps) rows.length (rows.least.items ++ (found.total +ℤ b) ∷ []) (length ps)
      (IsNear rows.candidates.items found.index rows.length (slice_index rows.candidates.items found.index)) (rows.pruned.items ++ 0 ∷ []) marked

module _ {f : List ℤ → ℤ} {ps : List (List ℤ)} {b : ℤ} {rows : Rows} {found : Found} {marked : List ℕ} (s : IsStep f ps b rows found marked) where
  abbrev costs : ℕ → ℕ → ℤ
  costs = cost_between f ps

  abbrev sums : List ℤ
  sums = rows.least.items

  abbrev new : ℤ
  new = found.total +ℤ b

  abbrev len : ℕ
  len = rows.length

  pub whole-table : TableGrows → IsTable costs (length ps) b rows.length (sums ++ new ∷ []) (rows.back.items ++ slice_index rows.candidates.items found.index ∷ []) marked
  whole-table grows =
      let e = last s.can in
      let p = s.can.pruned in
      rw (← e) (grows costs (length ps - 1) b rows.length sums rows.back.items rows.pruned.items marked (slice_index rows.candidates.items found.index) new p.table (rw (← e) at s.first)
      (rw (← e) at (x-is s.can s.range s.in_range found s.first s.made))
      (marks costs (length ps - 1) b rows.length rows.swept sums rows.back.items rows.pruned.items rows.candidates.items p.table p.length_from.0 p.swept p.candidates (rw (← e) at s.merges) s.can.low s.not_dear
      found.index s.made.inside new (rw (← e) at (x-is s.can s.range s.in_range found s.first s.made)) marked (rw (← e) at s.looked)))

  -- the candidates that are left, where some were dropped or none was
  pub left-are : (did : Bool) (g : ℕ) (left : List ℕ)
      → (did ≡ false → (left ≡ rows.candidates.items) × (g ≡ rows.swept))
      → (did ≡ true → (left ≡ filter (stays (length ps + 1 - rows.length) marked) rows.candidates.items) × (g ≡ length ps + 1 - rows.length))
      → (left ≡ open_places rows.length g marked (length ps - rows.length + 1)) × (g ≤ length ps + 1 - rows.length)
  left-are did g left same fewer =
      let e = last s.can in
      let p = s.can.pruned in
      let placed : rows.swept ≤ length ps - rows.length = rw e at p.swept in
      elim (cases_Bool did) [
        | inr no' ↦
            let is = same no' in
            let kept : rows.candidates.items ≡ open_places rows.length rows.swept marked (length ps - rows.length + 1) =
            rw e at (kept-are costs (length ps - 1) b rows.length rows.swept sums rows.back.items rows.pruned.items rows.candidates.items p.table p.length_from.0 p.swept p.candidates (rw (← e) at s.merges) s.can.low s.not_dear
            found.index s.made.inside new (rw (← e) at (x-is s.can s.range s.in_range found s.first s.made)) marked (rw (← e) at s.looked)) in
            (rw (is.0, is.1) kept, omega (arith, is.1, placed))
        | inl yes' ↦
            let is = fewer yes' in
            let dropped : filter (stays (length ps + 1 - rows.length) marked) rows.candidates.items ≡ open_places rows.length (length ps + 1 - rows.length) marked (length ps - rows.length + 1) =
            rw e at (dropped-are costs (length ps - 1) b rows.length rows.swept sums rows.back.items rows.pruned.items rows.candidates.items p.table p.length_from.0 p.swept p.candidates (rw (← e) at s.merges) s.can.low s.not_dear
            found.index s.made.inside new (rw (← e) at (x-is s.can s.range s.in_range found s.first s.made)) marked (rw (← e) at s.looked) (length ps + 1 - rows.length) (omega (arith, placed))) in
            (rw (is.0, is.1) dropped, omega (arith, is.1))
      ]

  -- and with the next one
  module _ (g : ℕ) (left : List ℕ) (left-open : left ≡ open_places rows.length g marked (length ps - rows.length + 1)) (placed : g ≤ length ps + 1 - rows.length) where
    pub left-few : length left ≤ length ps
    left-few = omega (arith, open-few rows.length g marked (length ps - rows.length + 1) left left-open, s.can.pruned.length_from.0, s.can.some)

    pub left-below : (i : ℕ) → i < length left → slice_index left i ≤ length ps
    left-below i lt = omega (arith, places-below rows.length g marked (length ps - rows.length + 1) left left-open i lt, s.can.some)

    pub whole-candidates : (all : List ℕ) → (length ps + 1 - rows.length < rows.length → all ≡ left)
        → (rows.length ≤ length ps + 1 - rows.length → all ≡ left ++ (length ps + 1 - rows.length) ∷ [])
        → all ≡ open_places rows.length g marked (length ps + 1 - rows.length + 1)
    whole-candidates all none one =
        let e = last s.can in
        let p = s.can.pruned in
        let more : length ps - 1 + 2 ≡ length ps + 1 = omega (arith, s.can.some) in
        let left' : left ≡ open_places rows.length g marked (length ps - 1 + 1 - rows.length + 1) = rw e left-open in
        elim (cases_lt (length ps + 1 - rows.length) rows.length) [
          | inl short ↦
              none short ∙ rw more at (none-next costs (length ps - 1) b rows.length rows.swept sums rows.back.items rows.pruned.items rows.candidates.items p.table p.length_from.0 p.swept p.candidates (rw (← e) at s.merges) s.can.low s.not_dear
              found.index s.made.inside new (rw (← e) at (x-is s.can s.range s.in_range found s.first s.made)) marked (rw (← e) at s.looked) g left left' (rw more short))
          | inr enough ↦
              one (omega (arith, enough)) ∙ rw more at (next-is costs (length ps - 1) b rows.length rows.swept sums rows.back.items rows.pruned.items rows.candidates.items p.table p.length_from.0 p.swept p.candidates (rw (← e) at s.merges) s.can.low s.not_dear
              found.index s.made.inside new (rw (← e) at (x-is s.can s.range s.in_range found s.first s.made)) marked (rw (← e) at s.looked) g (rw more placed) left left' (rw more (omega (arith, enough))))
        ]

    -- the bounds for the candidates that are left: those that there were, or one for all
    pub left-bounds : (did : Bool) (leader : ℕ) (bounds bounds' : List Bound) → HaveBounds costs (length ps) sums rows.candidates.items found.index bounds
        → (did ≡ false → left ≡ rows.candidates.items) → (did ≡ false → (bounds' ≡ bounds) × (leader ≡ found.index)) → length bounds' ≡ length bounds
        → (did ≡ true → (k : ℕ) → k < length bounds → bound_at bounds' k ≡ record { at = length ps; total = found.total }) → length left ≤ 256 * length bounds
        → HaveBounds costs (length ps) (sums ++ new ∷ []) left leader bounds'
    left-bounds did leader bounds bounds' old same kept size all enough = elim (cases_Bool did) [
      | inr no' ↦
          let is = kept no' in
          bounds-by costs (length ps) (sums ++ new ∷ []) (sums ++ new ∷ []) rows.candidates.items left found.index leader bounds bounds' refl (same no') is.1 is.0
          (bounds-from costs (length ps) sums new rows.candidates.items found.index bounds (λ i lt. omega (arith, below s.can i lt, least-size s.can)) old)
      | inl yes' ↦
          let is = all yes' in
          bounds-reset costs (length ps) (sums ++ new ∷ []) left leader found.total bounds' (omega (arith, size, enough)) (λ k lt. is k (omega (arith, lt, size))) s.made.low s.made.high
          (λ i lt. (
            left-below i lt,
            least-made costs rows.length (length ps) (slice_index rows.candidates.items found.index) sums new found.total (least-size s.can) s.first s.made.exact (slice_index left i)
                (open-candidates rows.length g marked (length ps) left s.can.pruned.length_from.0 s.can.some left-open i lt),
          ))
    ]

    -- and with the next one
    pub whole-bounds : (leader : ℕ) (all : List ℕ) (bounds bounds' : List Bound) → HaveBounds costs (length ps) (sums ++ new ∷ []) left leader bounds → length left < 256 * length bounds → length bounds' ≡ length bounds
        → (length ps + 1 - rows.length < rows.length → (all ≡ left) × (bounds' ≡ bounds))
        → (rows.length ≤ length ps + 1 - rows.length → (k : ℕ) × (all ≡ left ++ (length ps + 1 - rows.length) ∷ []) × (256 * k ≤ length left) × (length left < 256 * k + 256)
        × IsLowered (bound_at bounds k) (length ps) (int_at (sums ++ new ∷ []) (length ps + 1 - rows.length)) (bound_at bounds' k)
        × ((j : ℕ) → j ≢ k → bound_at bounds' j ≡ bound_at bounds j))
        → HaveBounds costs (length ps) (sums ++ new ∷ []) all leader bounds'
    whole-bounds leader all bounds bounds' h room size none one = elim (cases_lt (length ps + 1 - rows.length) rows.length) [
      | inl short ↦
          let is = none short in
          bounds-by costs (length ps) (sums ++ new ∷ []) (sums ++ new ∷ []) left all leader leader bounds bounds' refl is.0 refl is.1 h
      | inr enough ↦
          let is = one (omega (arith, enough)) in
          let ready : length ps + 1 - rows.length ≤ length ps = omega (arith, s.can.pruned.length_from.0) in
          let range' = next-totals s.can s.range s.in_range found s.first s.made (length ps + 1 - rows.length) (omega (arith, next-size s.can s.range s.in_range found s.first s.made, ready)) in
          let costs-low = (s.range (length ps + 1 - rows.length) (length ps) ready (omega arith)).0 in
          bounds-by costs (length ps) (sums ++ new ∷ []) (sums ++ new ∷ []) (left ++ (length ps + 1 - rows.length) ∷ []) all leader leader bounds' bounds' refl is.1 refl refl
          (bounds-push costs (length ps) (sums ++ new ∷ []) left leader is.0 (length ps + 1 - rows.length) (int_at (sums ++ new ∷ []) (length ps + 1 - rows.length)) bounds bounds' s.merges s.range h
          is.2 is.3 room size range'.0 (omega (arith, ints, range'.1)) ready (omega (arith, ints, costs-low)) is.4 is.5)
    ]

-- what is left by equal marks of equal candidates
pub filter-by : (g g' : ℕ) (marked cs cs' left : List ℕ) → g ≡ g' → cs ≡ cs' → left ≡ filter (stays g marked) cs → left ≡ filter (stays g' marked) cs'
filter-by g g' marked cs cs' left e f h = rw (e, f) at h

-- what became of the rows, where their parts are known
module _ (t ready t' ready' len : ℕ) (old new : Rows) (left : List ℕ) (least : List ℤ) (h : IsAdmitted t ready old new) (at-t : t ≡ t') (at-ready : ready ≡ ready') (at-len : old.length ≡ len)
    (at-left : old.candidates.items ≡ left) (at-least : old.least.items ≡ least) where
  pub admitted-none : ready' < len → (new.candidates.items ≡ left) × (new.bounds.items ≡ old.bounds.items)
  admitted-none short = let is = h.none (omega (arith, at-ready, at-len, short)) in (is.0 ∙ at-left, is.1)

  pub admitted-one : len ≤ ready' → (k : ℕ) × (new.candidates.items ≡ left ++ ready' ∷ []) × (256 * k ≤ length left) × (length left < 256 * k + 256)
      × IsLowered (bound_at old.bounds.items k) t' (int_at least ready') (bound_at new.bounds.items k)
      × ((j : ℕ) → j ≢ k → bound_at new.bounds.items j ≡ bound_at old.bounds.items j)
  admitted-one enough = grind (arith, common_steps)
