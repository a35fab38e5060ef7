-- How far a round without an answer 125 cuts down what is open: all that stays stands between two neighbours of those
-- that were asked.
use Rattle.std.proofs.Common.{◌≡◌, ℕ, zero, suc, ◌+◌, ◌-◌, ◌*◌, ◌/◌, ◌%◌, ◌<◌, ◌≤◌, min, Bool, true, false, ltb, List, [], ◌∷◌, length, get_or, map, filter, Option, None, ◌⊎◌, inl, inr, sym, ap, ◌∙◌, arith, subst}
use Rattle.std.{specs.List.Sorted.IsStrictlyIncreasing, proofs.lemmas.Bool.{cases_lt, lt-ltb, both_ways}, proofs.lemmas.Nat.{div-add-mod', mod_below}}
use Rattle.std.proofs.lemmas.{List.FromFn.length-map-range_with_len, Map.Keys.{below_from_sorted, sorted_from_strictly_increasing}}
use Rattle.std.proofs.Math.Nat.{mul-add, mul_comm, mul-le-mul_right, zero-div, mul-div_cancel_left}
use Rattle.wide_bisect.specs.declared.{said.Said.Said, outcome.WideOutcome.TheVariants.Asks}
use Rattle.wide_bisect.specs.Answers.{is_end, is_good, is_bad, is_skipped, place_of, good_places, bad_places, skipped_places, ending, is_among}
use Rattle.wide_bisect.specs.{Searches.{Search, asks, place_in_round, said_at, said_of, high_by, low_by, stays, open_by}, Sound.{IsBetween, IsSound}}
use Rattle.wide_bisect.proofs.Lists.{least-among, greatest-among, least-above, among_filter, among_said, all_said, few_pass}
use Rattle.wide_bisect.proofs.Rounds.{says, find_none, said_is, place_is, place_between, stays_between, asks_some}

zero_mul : (n : ℕ) → 0 * n ≡ 0
zero_mul n = omega arith

add_mul : (a b c : ℕ) → (a + b) * c ≡ a * c + b * c
add_mul a b c = omega (arith, mul_comm (a + b) c, mul-add c a b, mul_comm c a, mul_comm c b)

pub scaled : ℕ → ℕ → ℕ → ℕ
scaled m q i = i * (m + 1) / (q + 1)

-- the steps of the i-th of q places of m, before 1 is taken away
scaled_under : (m q i : ℕ) → scaled m q i * (q + 1) ≤ i * (m + 1)
unfolding scaled
scaled_under m q i = omega (arith, div-add-mod' (i * (m + 1)) (q + 1))

scaled_over : (m q i : ℕ) → i * (m + 1) < scaled m q i * (q + 1) + (q + 1)
unfolding scaled
scaled_over m q i =
    let r : i * (m + 1) % (q + 1) < q + 1 = mod_below (i * (m + 1)) (q + 1) (omega arith) in
    omega (arith, div-add-mod' (i * (m + 1)) (q + 1), r)

-- between two neighbours there are at most a (q + 1)-th of them
gap_small : (m q a : ℕ) → (scaled m q (a + 1) - scaled m q a - 1) * (q + 1) ≤ m
gap_small m q a = elim (cases_lt (scaled m q a + 1) (scaled m q (a + 1))) [
  | inl apart ↦
      let z : ℕ = scaled m q (a + 1) - scaled m q a - 1 in
      let is : scaled m q (a + 1) ≡ scaled m q a + 1 + (scaled m q (a + 1) - scaled m q a - 1) = omega (arith, apart) in
      let one : scaled m q (a + 1) * (q + 1) ≡ (scaled m q a + 1 + (scaled m q (a + 1) - scaled m q a - 1)) * (q + 1) = ap (λ (x : ℕ). x * (q + 1)) is in
      let two : (scaled m q a + 1 + (scaled m q (a + 1) - scaled m q a - 1)) * (q + 1) ≡ (scaled m q a + 1) * (q + 1) + (scaled m q (a + 1) - scaled m q a - 1) * (q + 1) = add_mul (scaled m q a + 1) (scaled m q (a + 1) - scaled m q a - 1) (q + 1) in
      let three : (scaled m q a + 1) * (q + 1) ≡ scaled m q a * (q + 1) + 1 * (q + 1) = add_mul (scaled m q a) 1 (q + 1) in
      let four : (a + 1) * (m + 1) ≡ a * (m + 1) + 1 * (m + 1) = add_mul a 1 (m + 1) in
      let under : scaled m q (a + 1) * (q + 1) ≤ (a + 1) * (m + 1) = scaled_under m q (a + 1) in
      let over : a * (m + 1) < scaled m q a * (q + 1) + (q + 1) = scaled_over m q a in
      omega (arith, one, two, three, four, under, over)
  | inr near ↦
      let none' : scaled m q (a + 1) - scaled m q a - 1 ≡ 0 = omega (arith, near) in
      rw none' (omega arith)
]

scaled_rises : (m q i j : ℕ) → q ≤ m → i < j → scaled m q i < scaled m q j
scaled_rises m q i j few before = elim (cases_lt (scaled m q i) (scaled m q j)) [
  | inl h ↦ h
  | inr h ↦
      let a : scaled m q j * (q + 1) ≤ scaled m q i * (q + 1) = mul-le-mul_right (q + 1) h in
      let b : (i + 1) * (m + 1) ≤ j * (m + 1) = mul-le-mul_right (m + 1) (omega arith) in
      let c : (i + 1) * (m + 1) ≡ i * (m + 1) + 1 * (m + 1) = add_mul i 1 (m + 1) in
      let under : scaled m q i * (q + 1) ≤ i * (m + 1) = scaled_under m q i in
      let over : j * (m + 1) < scaled m q j * (q + 1) + (q + 1) = scaled_over m q j in
      absurd (omega (arith, a, b, c, under, over))
]

pos_of : (m q i : ℕ) → q ≤ m → 1 ≤ i → 0 < scaled m q i
pos_of m q i few first =
    let up : scaled m q 0 < scaled m q i = scaled_rises m q 0 i few first in
    omega (arith, up)

scaled_none : (m q : ℕ) → scaled m q 0 ≡ 0
unfolding scaled
scaled_none m q = rw (zero_mul (m + 1)) (zero-div (q + 1))

scaled_all : (m q : ℕ) → scaled m q (q + 1) ≡ m + 1
unfolding scaled
scaled_all m q = mul-div_cancel_left (m + 1) (omega arith)

-- ---- what stays

-- a place that stays, by its index, is before each place that is no higher than another
index_before : (xs : List ℕ) (i j : ℕ) → IsStrictlyIncreasing xs → i < length xs → get_or xs i 0 < get_or xs j 0 → j < length xs → i < j
index_before xs i j rising within less inside = elim (cases_lt i j) [
  | inl h ↦ h
  | inr h ↦ elim (cases_lt j i) [
    | inl back ↦
        let other : get_or xs j 0 < get_or xs i 0 = below_from_sorted xs j i 0 (sorted_from_strictly_increasing xs rising) back within in
        absurd (omega (arith, less, other))
    | inr same ↦
        let e : i ≡ j = omega arith in
        absurd (omega (arith, ap (λ (k : ℕ). get_or xs k 0) e, less))
  ]
]

-- each place of the round is good or bad, where none was answered 125 and none ends the search
GoodOrBad : Search → List (Option ℕ) → ℕ → Type 0
GoodOrBad s statuses i = ((is_good (said_at s statuses i) ≡ true) × (is_bad (said_at s statuses i) ≡ false)) ⊎ (is_bad (said_at s statuses i) ≡ true)

none_among : (n : ℕ) (xs : List ℕ) → xs ≡ [] → is_among n xs ≡ true → ⊥
none_among n [] e h = absurd (cc)
none_among n (x ∷ xs) e h = absurd (cc)

pub said_at_is : (s : Search) (statuses : List (Option ℕ)) (i : ℕ) (d : Said) → 1 ≤ i → i ≤ asks s → get_or (said_of s statuses) (i - 1) d ≡ said_at s statuses i
said_at_is s statuses i d first last =
    let step : i - 1 + 1 ≡ i = omega arith in
    said_is s statuses (i - 1) d (omega arith) ∙ ap (said_at s statuses) step

pub said_among : (s : Search) (statuses : List (Option ℕ)) (i : ℕ) (p : Said → Bool) → 1 ≤ i → i ≤ asks s → p (said_at s statuses i) ≡ true
    → is_among (place_in_round s i) (map place_of (filter p (said_of s statuses))) ≡ true
said_among s statuses i p first last passes =
    let d : Said = said_at s statuses i in
    let n : length (said_of s statuses) ≡ asks s = length-map-range_with_len (said_at s statuses) 1 (asks s) in
    let at : get_or (said_of s statuses) (i - 1) (said_at s statuses i) ≡ said_at s statuses i = said_at_is s statuses i (said_at s statuses i) first last in
    subst (λ (x : Said). is_among x.place (map place_of (filter p (said_of s statuses))) ≡ true) at
    (among_said p (said_of s statuses) (i - 1) (said_at s statuses i) (omega (arith, n)) (subst (λ (x : Said). p x ≡ true) (sym at) passes))

good_or_bad : (s : Search) (statuses : List (Option ℕ)) → ending (said_of s statuses) ≡ None → skipped_places (said_of s statuses) ≡ []
    → (i : ℕ) → 1 ≤ i → i ≤ asks s → GoodOrBad s statuses i
unfolding GoodOrBad
good_or_bad s statuses gone unskipped i first last =
    let n : length (said_of s statuses) ≡ asks s = length-map-range_with_len (said_at s statuses) 1 (asks s) in
    let at : get_or (said_of s statuses) (i - 1) (said_at s statuses i) ≡ said_at s statuses i = said_at_is s statuses i (said_at s statuses i) first last in
    let no_end : is_end (said_at s statuses i) ≡ false = subst (λ (x : Said). is_end x ≡ false) at (find_none (said_of s statuses) (i - 1) (said_at s statuses i) gone (omega (arith, n))) in
    elim (says (said_at s statuses i) no_end) [
      | inl k ↦ inl (k.good, k.bad)
      | inr (inl k) ↦ inr k.bad
      | inr (inr k) ↦ absurd (none_among (place_in_round s i) (skipped_places (said_of s statuses)) unskipped (said_among s statuses i is_skipped first last k.skipped))
    ]

-- the places from 1 to a are good, and the next one is bad or isn't asked
record IsGap (s : Search) (statuses : List (Option ℕ)) (a : ℕ) : Type 0 where
  few : a ≤ asks s
  good : (j : ℕ) → 1 ≤ j → j ≤ a → (is_good (said_at s statuses j) ≡ true) × (is_bad (said_at s statuses j) ≡ false)
  next : (asks s ≡ a) ⊎ ((a + 1 ≤ asks s) × (is_bad (said_at s statuses (a + 1)) ≡ true))

find_gap : (s : Search) (statuses : List (Option ℕ)) → ((i : ℕ) → 1 ≤ i → i ≤ asks s → GoodOrBad s statuses i)
    → (left a : ℕ) → a + left ≡ asks s → ((j : ℕ) → 1 ≤ j → j ≤ a → (is_good (said_at s statuses j) ≡ true) × (is_bad (said_at s statuses j) ≡ false))
    → (g : ℕ) × IsGap s statuses g
unfolding GoodOrBad
find_gap s statuses each zero a all good = (a, record { few = omega arith; good = good; next = inl (omega arith) })
find_gap s statuses each (suc left) a all good = elim (each (a + 1) (omega arith) (omega arith)) [
  | inl ok ↦ find_gap s statuses each left (a + 1) (omega arith)
      (λ (j : ℕ) (first : 1 ≤ j) (last : j ≤ a + 1). elim (cases_lt j (a + 1)) [
        | inl before ↦ good j first (omega arith)
        | inr at ↦
            let e : a + 1 ≡ j = omega arith in
            subst (λ (x : ℕ). (is_good (said_at s statuses x) ≡ true) × (is_bad (said_at s statuses x) ≡ false)) e ok
      ])
  | inr bad ↦ (a, record { few = omega arith; good = good; next = inr (omega arith, bad) })
]

-- a place past the good ones is above them
pub rises_on : (s : Search) → IsSound s → s.outcome ≡ Asks → (i j : ℕ) → 1 ≤ i → i < j → j ≤ asks s → place_in_round s i < place_in_round s j
unfolding scaled
rises_on s sound running i j first before last =
    let q : asks s ≡ min s.width (length s.left) = asks_some s sound running in
    let up : scaled (length s.left) (asks s) i < scaled (length s.left) (asks s) j = scaled_rises (length s.left) (asks s) i j (omega (arith, q)) before in
    let low : 0 < scaled (length s.left) (asks s) i = pos_of (length s.left) (asks s) i (omega (arith, q)) first in
    below_from_sorted s.left (scaled (length s.left) (asks s) i - 1) (scaled (length s.left) (asks s) j - 1) 0 (sorted_from_strictly_increasing s.left sound.rising) (omega (arith, up, low)) (place_is s sound running j (omega arith) last)

-- the last good place is below high
good_below : (s : Search) → IsSound s → s.outcome ≡ Asks → (statuses : List (Option ℕ)) (a : ℕ) → IsGap s statuses a → 1 ≤ a → place_in_round s a < high_by s (said_of s statuses)
good_below s sound running statuses a gap first =
    least-above (place_in_round s a) s.high (bad_places (said_of s statuses)) ((place_between s sound running a first gap.few).1)
    (all_said (λ (x : ℕ). place_in_round s a < x) is_bad (said_of s statuses)
    (λ (i : ℕ) (d : Said) (within : i < length (said_of s statuses)) (passes : is_bad (get_or (said_of s statuses) i d) ≡ true).
    let n : length (said_of s statuses) ≡ asks s = length-map-range_with_len (said_at s statuses) 1 (asks s) in
    let e : get_or (said_of s statuses) i d ≡ said_at s statuses (i + 1) = said_is s statuses i d (omega (arith, n, within)) in
    let bad : is_bad (said_at s statuses (i + 1)) ≡ true = subst (λ (x : Said). is_bad x ≡ true) e passes in
    subst (λ (x : Said). place_in_round s a < x.place) (sym e)
    (elim (cases_lt a (i + 1)) [
      | inl past ↦ rises_on s sound running a (i + 1) first past (omega (arith, n, within))
      | inr not' ↦ absurd (both_ways (is_bad (said_at s statuses (i + 1))) (gap.good (i + 1) (omega arith) not').1 bad)
    ])))

above : (s : Search) → IsSound s → s.outcome ≡ Asks → (statuses : List (Option ℕ)) (a : ℕ) → IsGap s statuses a
    → (j : ℕ) → j < length s.left → low_by s (said_of s statuses) < get_or s.left j 0 → scaled (length s.left) (asks s) a ≤ j
unfolding scaled
above s sound running statuses zero gap j within less = rw (scaled_none (length s.left) (asks s)) (omega arith)
above s sound running statuses (suc b) gap j within less =
    let first : 1 ≤ suc b = omega arith in
    let under : place_in_round s (suc b) < high_by s (said_of s statuses) = good_below s sound running statuses (suc b) gap first in
    let reached : place_in_round s (suc b) ≤ low_by s (said_of s statuses) = greatest-among s.low (filter (λ (place : ℕ). ltb place (high_by s (said_of s statuses))) (good_places (said_of s statuses))) (place_in_round s (suc b))
    (among_filter (λ (place : ℕ). ltb place (high_by s (said_of s statuses))) (good_places (said_of s statuses)) (place_in_round s (suc b)) (said_among s statuses (suc b) is_good first gap.few (gap.good (suc b) first (omega arith)).0) (lt-ltb (place_in_round s (suc b)) (high_by s (said_of s statuses)) under)) in
    let at : scaled (length s.left) (asks s) (suc b) - 1 < length s.left = place_is s sound running (suc b) first gap.few in
    let order : scaled (length s.left) (asks s) (suc b) - 1 < j = index_before s.left (scaled (length s.left) (asks s) (suc b) - 1) j sound.rising at (omega (arith, reached, less)) within in
    omega (arith, order)

next_index : (s : Search) → IsSound s → s.outcome ≡ Asks → (statuses : List (Option ℕ)) (a j : ℕ) → a + 1 ≤ asks s → j < length s.left
    → get_or s.left j 0 < place_in_round s (a + 1) → j < scaled (length s.left) (asks s) (a + 1) - 1
unfolding scaled
next_index s sound running statuses a j last within less =
    index_before s.left j (scaled (length s.left) (asks s) (a + 1) - 1) sound.rising within less (place_is s sound running (a + 1) (omega arith) last)

below : (s : Search) → IsSound s → s.outcome ≡ Asks → (statuses : List (Option ℕ)) (a : ℕ) → IsGap s statuses a
    → (j : ℕ) → j < length s.left → get_or s.left j 0 < high_by s (said_of s statuses) → j < scaled (length s.left) (asks s) (a + 1) - 1
below s sound running statuses a gap j within less = elim gap.next [
  | inl all ↦
      let e : scaled (length s.left) (asks s) (a + 1) ≡ length s.left + 1 = ap (λ (x : ℕ). scaled (length s.left) (asks s) (x + 1)) (sym all) ∙ scaled_all (length s.left) (asks s) in
      omega (arith, e)
  | inr bad ↦
      let under : high_by s (said_of s statuses) ≤ place_in_round s (a + 1) = least-among s.high (bad_places (said_of s statuses)) (place_in_round s (a + 1)) (said_among s statuses (a + 1) is_bad (omega arith) bad.0 bad.1) in
      next_index s sound running statuses a j bad.0 within (omega (arith, less, under))
]

-- what stays stands in the gap
in_gap : (s : Search) → IsSound s → s.outcome ≡ Asks → (statuses : List (Option ℕ)) (a : ℕ) → IsGap s statuses a
    → (j : ℕ) → j < length s.left → stays (low_by s (said_of s statuses)) (high_by s (said_of s statuses)) (said_of s statuses) (get_or s.left j 0) ≡ true
    → (scaled (length s.left) (asks s) a ≤ j) × (j < scaled (length s.left) (asks s) (a + 1) - 1)
in_gap s sound running statuses a gap j within stays' =
    let q : asks s ≡ min s.width (length s.left) = asks_some s sound running in
    let both : IsBetween (low_by s (said_of s statuses)) (high_by s (said_of s statuses)) (get_or s.left j 0) = stays_between (low_by s (said_of s statuses)) (high_by s (said_of s statuses)) (said_of s statuses) (get_or s.left j 0) stays' in (
      above s sound running statuses a gap j within both.0,
      below s sound running statuses a gap j within both.1,
    )

-- what stays is at most a (q + 1)-th of what was open
pub fewer_by : (s : Search) → IsSound s → s.outcome ≡ Asks → (statuses : List (Option ℕ)) → ending (said_of s statuses) ≡ None → skipped_places (said_of s statuses) ≡ []
    → length (open_by s (said_of s statuses)) * (asks s + 1) ≤ length s.left
fewer_by s sound running statuses gone unskipped =
    let found : (g : ℕ) × IsGap s statuses g = find_gap s statuses (good_or_bad s statuses gone unskipped) (asks s) 0 (omega arith) (λ (j : ℕ) (first : 1 ≤ j) (last : j ≤ 0). absurd (omega arith)) in
    let a : ℕ = found.0 in
    let few : length (open_by s (said_of s statuses)) ≤ scaled (length s.left) (asks s) (found.0 + 1) - 1 - scaled (length s.left) (asks s) found.0 =
    few_pass (stays (low_by s (said_of s statuses)) (high_by s (said_of s statuses)) (said_of s statuses)) s.left (scaled (length s.left) (asks s) found.0) (scaled (length s.left) (asks s) (found.0 + 1) - 1)
    (in_gap s sound running statuses found.0 found.1) in
    let small : (scaled (length s.left) (asks s) (found.0 + 1) - scaled (length s.left) (asks s) found.0 - 1) * (asks s + 1) ≤ length s.left = gap_small (length s.left) (asks s) found.0 in
    let times : length (open_by s (said_of s statuses)) * (asks s + 1) ≤ (scaled (length s.left) (asks s) (found.0 + 1) - scaled (length s.left) (asks s) found.0 - 1) * (asks s + 1) = mul-le-mul_right (asks s + 1) (omega (arith, few)) in
    omega (arith, small, times)
