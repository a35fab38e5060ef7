-- Segments of positions as lists of values.
use Rattle.std.proofs.Common.{◌≡◌, ℕ, ℤ, zero, suc, ◌+◌, ◌-◌, ◌<◌, ◌≤◌, List, [], ◌∷◌, ◌++◌, length, get_or, take, drop, All, refl, sym, ap, subst, ◌∙◌, pos, ◌^◌, ◌≤ℤ◌, arith}
use Rattle.std.proofs.lemmas.{Int.ints, Grind.common_steps, List.{length-append, length-map, drop-drop, take-append-drop, take_all, take_more}}
use Rattle.std.proofs.lemmas.List.Concat.{flat_map-append}
use Rattle.segment_model.specs.{Segments.{Observation, Position, position_values, values_of, segment, IsCost}, Limits.{IsSmall, HasValue, WithinLimits}}
use Rattle.segment_model.specs.Values.{joined, values_between, values_by_position, IsSome, AreWithinLimits, ValuesHaveParts, ValuesAreWithinLimits, ValuesAreSome, FrontHasSameValues, FrontIsWithinLimits, FirstAreWithinLimits, NextOfPoints, AllOfPoints, NextValuesFollow, ValuesOfPoints, PointsAreWithinLimits, SegmentsMerge, SegmentsAreInRange}
use Rattle.segment_model.proofs.{Segments.{take-sum, one-position}, Bounds.{all-left, all-right, least_sum-low, least_sum-high}}

joined-append : (xs ys : List (List ℤ)) → joined (xs ++ ys) ≡ joined xs ++ joined ys
joined-append xs ys = flat_map-append (λ (v : List ℤ). v) xs ys

pub values-parts : ValuesHaveParts
values-parts positions s u t lo hi =
    let parts = take-sum (drop s positions) (u - s) (t - u) in
    let size : (u - s) + (t - u) ≡ t - s = omega arith in
    let start : s + (u - s) ≡ u = omega arith in
    let parts' = rw (size, drop-drop (u - s) s positions, start) at parts in
    rw parts' (joined-append (take (u - s) (drop s positions)) (take (t - u) (drop u positions)))

values-whole : (positions : List (List ℤ)) → values_between positions 0 (length positions) ≡ joined positions
values-whole positions = ap joined (take_all (length positions - 0) positions (omega arith))

pub front-within : FrontIsWithinLimits
front-within xs ys h = record {
  few_positions = omega (arith, h.few_positions, length-append xs ys);
  few_values = omega (arith, h.few_values, ap length (joined-append xs ys) ∙ length-append (joined xs) (joined ys));
  small = all-left IsSmall (joined xs) (joined ys) (rw (joined-append xs ys) at h.small);
  none_empty = all-left IsSome xs ys h.none_empty;
}

module _ (positions : List (List ℤ)) (within : AreWithinLimits positions) where
  whole : (s t : ℕ) → s ≤ t → t ≤ length positions
      → joined positions ≡ (values_between positions 0 s ++ values_between positions s t) ++ values_between positions t (length positions)
  whole s t le fits =
      sym (values-whole positions)
      ∙ values-parts positions 0 t (length positions) (omega arith) fits
      ∙ ap (λ xs. xs ++ values_between positions t (length positions)) (values-parts positions 0 s t (omega arith) le)

  pub values-small : (s t : ℕ) → s ≤ t → t ≤ length positions → All IsSmall (values_between positions s t)
  values-small s t le fits =
      all-right IsSmall (values_between positions 0 s) (values_between positions s t)
      (all-left IsSmall (values_between positions 0 s ++ values_between positions s t) (values_between positions t (length positions)) (rw (whole s t le fits) at within.small))

  pub values-few : (s t : ℕ) → s ≤ t → t ≤ length positions → length (values_between positions s t) ≤ 65_536
  values-few s t le fits =
      omega (
        arith,
        within.few_values,
        ap length (whole s t le fits),
        length-append (values_between positions 0 s ++ values_between positions s t) (values_between positions t (length positions)),
        length-append (values_between positions 0 s) (values_between positions s t),
      )

pub values-within : ValuesAreWithinLimits
values-within positions within s t le fits = (values-small positions within s t le fits, values-few positions within s t le fits)

one-list : (positions : List (List ℤ)) (i : ℕ) → i < length positions → values_between positions i (i + 1) ≡ get_or positions i [] ++ []
one-list [] i h = absurd (omega arith)
one-list (p ∷ positions) zero h = refl
one-list (p ∷ positions) (suc i) h = grind (arith, common_steps, one-list positions i (omega arith))

pub values-some : ValuesAreSome
values-some positions within s t lt fits =
    let first : values_between positions s t ≡ values_between positions s (s + 1) ++ values_between positions (s + 1) t = values-parts positions s (s + 1) t (omega arith) (omega arith) in
    let some : 0 < length (get_or positions s []) = within.none_empty s [] (omega arith) in
    omega (
      arith,
      some,
      ap length (one-list positions s (omega arith)) ∙ length-append (get_or positions s []) [],
      ap length first ∙ length-append (values_between positions s (s + 1)) (values_between positions (s + 1) t),
    )

pub front-values : FrontHasSameValues
front-values front rest s t le fits = grind (arith, common_steps)

pub next-values : NextValuesFollow
next-values positions values = grind (arith, common_steps)

joined-map : (points : List Position) → joined (values_by_position points) ≡ values_of points
joined-map [] = refl
joined-map (p ∷ points) = ap (λ xs. position_values p ++ xs) (joined-map points)

take-map : (n : ℕ) (points : List Position) → take n (values_by_position points) ≡ values_by_position (take n points)
take-map zero points = refl
take-map (suc n) [] = refl
take-map (suc n) (p ∷ points) = ap (λ xs. position_values p ∷ xs) (take-map n points)

drop-map : (n : ℕ) (points : List Position) → drop n (values_by_position points) ≡ values_by_position (drop n points)
drop-map zero points = refl
drop-map (suc n) [] = refl
drop-map (suc n) (p ∷ points) = drop-map n points

pub points-values : ValuesOfPoints
points-values points s t = grind (arith, common_steps, take, drop-map, take-map, drop, joined-map)

some-map : (points : List Position) → All HasValue points → All IsSome (values_by_position points)
some-map [] h k d lt = absurd (omega arith)
some-map (p ∷ points) h zero d lt = omega (arith, length-map p.samples (λ (x : Observation). x.value), h zero p (omega arith))
some-map (p ∷ points) h (suc k) d lt = some-map points (λ k' d' lt'. h (suc k') d' (omega arith)) k d (omega arith)

pub points-within : PointsAreWithinLimits
points-within points h = grind (arith, common_steps, length-map, joined-map, some-map)

-- ---- the segments of points within the limits
module _ (points : List Position) (within : WithinLimits points) where
  inside : (t : ℕ) → t ≤ length points → t ≤ length (values_by_position points)
  inside t fits = omega (arith, fits, length-map points position_values)

  pub segment-small : (s t : ℕ) → s ≤ t → t ≤ length points → All IsSmall (segment points s t)
  segment-small s t le fits = subst (All IsSmall) (points-values points s t) (values-small (values_by_position points) (points-within points within) s t le (inside t fits))

  pub segment-few : (s t : ℕ) → s ≤ t → t ≤ length points → length (segment points s t) ≤ 65_536
  segment-few s t le fits = subst (λ (xs : List ℤ). length xs ≤ 65_536) (points-values points s t) (values-few (values_by_position points) (points-within points within) s t le (inside t fits))

  pub segment-some : (s t : ℕ) → s < t → t ≤ length points → 0 < length (segment points s t)
  segment-some s t lt fits = subst (λ (xs : List ℤ). 0 < length xs) (points-values points s t) (values-some (values_by_position points) (points-within points within) s t lt (inside t fits))

pub cost-range : (points : List Position) (cost : ℕ → ℕ → ℤ) → WithinLimits points → IsCost points cost
    → (s t : ℕ) → s ≤ t → t ≤ length points → (pos 0 ≤ℤ cost s t) × (cost s t ≤ℤ pos (10 ^ 37))
cost-range points cost within is s t le fits =
    let small = segment-small points within s t le fits in
    let few = segment-few points within s t le fits in (
      least_sum-low (segment points s t) (cost s t) (is s t le fits),
      omega (arith, ints, few, least_sum-high (10 ^ 16) (segment points s t) (cost s t) small (is s t le fits)),
    )

pub segments-merge : SegmentsMerge
segments-merge cost merges positions n s u t lo hi fits = rw (values-parts positions s u t lo hi) (merges (values_between positions s u) (values_between positions u t))

pub segments-range : SegmentsAreInRange
segments-range cost range positions within s t le fits = range (values_between positions s t) (values-small positions within s t le fits) (values-few positions within s t le fits)

pub first-within : FirstAreWithinLimits
first-within positions k h = front-within (take k positions) (drop k positions) (rw (take-append-drop k positions) h)

read-map : (points : List Position) (i : ℕ) → i < length points → get_or (values_by_position points) i [] ≡ position_values (get_or points i (record { commit = 0; samples = [] }))
read-map [] i lt = absurd (omega arith)
read-map (p ∷ points) zero lt = refl
read-map (p ∷ points) (suc i) lt = read-map points i (omega arith)

pub next-of-points : NextOfPoints
next-of-points points i lt =
    let more = take_more (values_by_position points) i [] (omega (arith, lt, length-map points position_values)) in
    let one = one-position points i (record { commit = 0; samples = [] }) lt in
    ap (λ (v : List ℤ). take i (values_by_position points) ++ v ∷ []) (one ∙ sym (read-map points i lt)) ∙ sym more

pub all-of-points : AllOfPoints
all-of-points points = take_all (length points) (values_by_position points) (omega (arith, length-map points position_values))
