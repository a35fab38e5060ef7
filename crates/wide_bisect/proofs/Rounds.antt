-- What a round that goes on makes of a search.
use Rattle.std.proofs.Common.{◌≡◌, ℕ, zero, suc, ◌+◌, ◌-◌, ◌*◌, ◌/◌, ◌<◌, ◌≤◌, min, Bool, true, false, not, ◌&&◌, cond, ltb, List, [], ◌∷◌, ◌++◌, length, get_or, map, filter, find, Option, Some, None, ◌⊎◌, inl, inr, refl, sym, ap, ◌∙◌, arith, subst}
use Rattle.std.specs.List.{range_with_len, All, Sorted.IsStrictlyIncreasing}
use Rattle.std.proofs.lemmas.{Bool.{cases_Bool, cases_lt, ltb-true, lt-ltb, le-ltb, and_parts, and_left, and_right, eqb-true}, Nat.{div_below, le-div}}
use Rattle.std.proofs.lemmas.List.{Elements.{All-get_or, All-from_get_or, All-weaker, filter_passes}, Kept.IsStrictlyIncreasing-filter}
use Rattle.std.proofs.lemmas.List.FromFn.{length-map-range_with_len, get_or-map-range_with_len, length-range_with_len, get_or-range_with_len}
use Rattle.std.proofs.Math.Nat.{mul-le-mul_right}
use Rattle.wide_bisect.specs.declared.{said.Said.Said, outcome.WideOutcome.WideOutcome, outcome.WideOutcome.TheVariants.Asks}
use Rattle.wide_bisect.specs.Answers.{status_is, is_end, is_good, is_bad, is_skipped, place_of, good_places, bad_places, skipped_places, ending, is_among, least, greatest}
use Rattle.wide_bisect.specs.Searches.{Search, search_of, begun, settled, asks, place_in_round, said_at, said_of, high_by, low_by, stays, open_by, moved}
use Rattle.wide_bisect.specs.Sound.{IsBetween, IsSound, GoesOn}
use Rattle.wide_bisect.proofs.Lists.{least-le, least-among, greatest-among, least-above, greatest-below, among_filter, among_said, all_said, filter-lt}

-- ---- the places of a round

-- the index of the i-th of q places of m
abbrev pub index_of : ℕ → ℕ → ℕ → ℕ
index_of m q i = i * (m + 1) / (q + 1) - 1

pub asks_some : (s : Search) → IsSound s → s.outcome ≡ Asks → asks s ≡ min s.width (length s.left)
asks_some s sound running = rw running refl

-- an index from 1 on, before the scaling, is at least 1
scaled_low : (m q i : ℕ) → q ≤ m → 1 ≤ i → 1 ≤ i * (m + 1) / (q + 1)
scaled_low m q i few first =
    let a : 1 * (m + 1) ≤ i * (m + 1) = mul-le-mul_right (m + 1) first in
    le-div 1 (i * (m + 1)) (q + 1) (omega arith) (omega arith)

scaled_high : (m q i : ℕ) → i ≤ q → i * (m + 1) / (q + 1) < m + 1
scaled_high m q i last =
    let a : i * (m + 1) ≤ q * (m + 1) = mul-le-mul_right (m + 1) last in
    div_below (i * (m + 1)) (q + 1) (m + 1) (omega arith) (omega (arith, a))

pub index_within : (m q i : ℕ) → q ≤ m → 1 ≤ i → i ≤ q → index_of m q i < m
index_within m q i few first last = omega (arith, scaled_low m q i few first, scaled_high m q i last)

-- what is said of the i-th place, as an item of the round
pub said_is : (s : Search) (statuses : List (Option ℕ)) (i : ℕ) (d : Said) → i < asks s → get_or (said_of s statuses) i d ≡ said_at s statuses (i + 1)
said_is s statuses i d within = get_or-map-range_with_len (said_at s statuses) 1 (asks s) i (i + 1) d within (omega arith)

-- its place stands among the open ones
pub place_is : (s : Search) → IsSound s → s.outcome ≡ Asks → (i : ℕ) → 1 ≤ i → i ≤ asks s
    → (index_of (length s.left) (asks s) i < length s.left)
place_is s sound running i first last =
    let q : asks s ≡ min s.width (length s.left) = asks_some s sound running in
    index_within (length s.left) (asks s) i (omega (arith, q)) first last

pub place_between : (s : Search) → IsSound s → s.outcome ≡ Asks → (i : ℕ) → 1 ≤ i → i ≤ asks s → IsBetween s.low s.high (place_in_round s i)
place_between s sound running i first last = All-get_or (IsBetween s.low s.high) s.left (index_of (length s.left) (asks s) i) 0 (place_is s sound running i first last) sound.between

-- the places of those that pass a test are between the ends
pub all_between : (s : Search) → IsSound s → s.outcome ≡ Asks → (statuses : List (Option ℕ)) (p : Said → Bool) → All (IsBetween s.low s.high) (map place_of (filter p (said_of s statuses)))
all_between s sound running statuses p =
    all_said (IsBetween s.low s.high) p (said_of s statuses)
    (λ (i : ℕ) (d : Said) (within : i < length (said_of s statuses)) (passes : p (get_or (said_of s statuses) i d) ≡ true).
    let n : length (said_of s statuses) ≡ asks s = length-map-range_with_len (said_at s statuses) 1 (asks s) in
    let e : get_or (said_of s statuses) i d ≡ said_at s statuses (i + 1) = said_is s statuses i d (omega (arith, n, within)) in
    subst (λ (x : Said). IsBetween s.low s.high x.place) (sym e) (place_between s sound running (i + 1) (omega arith) (omega (arith, n, within))))

-- ---- the ends

pub high_above : (s : Search) → IsSound s → s.outcome ≡ Asks → (statuses : List (Option ℕ)) → s.low < high_by s (said_of s statuses)
high_above s sound running statuses =
    least-above s.low s.high (bad_places (said_of s statuses)) sound.apart
    (All-weaker (IsBetween s.low s.high) (λ (x : ℕ). s.low < x) (λ (x : ℕ) (h : IsBetween s.low s.high x). h.0) (bad_places (said_of s statuses)) (all_between s sound running statuses is_bad))

pub ends_apart : (s : Search) → IsSound s → s.outcome ≡ Asks → (statuses : List (Option ℕ)) → low_by s (said_of s statuses) < high_by s (said_of s statuses)
ends_apart s sound running statuses =
    let h : ℕ = high_by s (said_of s statuses) in
    let xs : List ℕ = filter (λ (place : ℕ). ltb place h) (good_places (said_of s statuses)) in
    greatest-below h s.low xs (high_above s sound running statuses)
    (All-weaker (λ (x : ℕ). ltb x h ≡ true) (λ (x : ℕ). x < h) (λ (x : ℕ) (e : ltb x h ≡ true). ltb-true x h e) xs (filter_passes (λ (place : ℕ). ltb place h) (good_places (said_of s statuses))))

-- ---- a status, where it doesn't end the search

pub record Says (x : Said) (g b k : Bool) : Type 0 where
  pub good : is_good x ≡ g
  pub bad : is_bad x ≡ b
  pub skipped : is_skipped x ≡ k

both_kinds : (status : Option ℕ) → status_is 0 status ≡ true → status_is 125 status ≡ true → ⊥
both_kinds None good skipped = absurd (cc)
both_kinds (Some status) good skipped =
    let a : status ≡ 0 = eqb-true status 0 good in
    let b : status ≡ 125 = eqb-true status 125 skipped in
    omega (arith, a, b)

pub says : (x : Said) → is_end x ≡ false → Says x true false false ⊎ Says x false true false ⊎ Says x false false true
says x no_end = elim (cases_Bool (is_good x)) [
  | inl good ↦ elim (cases_Bool (is_skipped x)) [
    | inl skipped ↦ absurd (both_kinds x.status good skipped)
    | inr unskipped ↦ inl (record { good = good; bad = rw (no_end, good) refl; skipped = unskipped })
  ]
  | inr no_good ↦ elim (cases_Bool (is_skipped x)) [
    | inl skipped ↦ inr (inr (record { good = no_good; bad = rw (no_end, no_good, skipped) refl; skipped = skipped }))
    | inr unskipped ↦ inr (inl (record { good = no_good; bad = rw (no_end, no_good, unskipped) refl; skipped = unskipped }))
  ]
]

-- none of them ends it
pub find_none : (said : List Said) (i : ℕ) (d : Said) → find is_end said ≡ None → i < length said → is_end (get_or said i d) ≡ false
find_none [] i d gone within = absurd (omega arith)
find_none (x ∷ said) zero d gone within = elim (cases_Bool (is_end x)) [
  | inl ends ↦
      let e : cond (is_end x) (Some x) (find is_end said) ≡ Some x = rw ends refl in
      absurd (cc)
  | inr goes ↦ goes
]
find_none (x ∷ said) (suc i) d gone within = elim (cases_Bool (is_end x)) [
  | inl ends ↦
      let e : cond (is_end x) (Some x) (find is_end said) ≡ Some x = rw ends refl in
      absurd (cc)
  | inr goes ↦
      let e : cond (is_end x) (Some x) (find is_end said) ≡ find is_end said = rw goes refl in
      find_none said i d (sym e ∙ gone) (omega arith)
]

-- ---- what stays open

pub stays_between : (low high : ℕ) (said : List Said) (place : ℕ) → stays low high said place ≡ true → IsBetween low high place
stays_between low high said place h =
    let a = and_parts (ltb low place && ltb place high) (not (is_among place (skipped_places said))) h in
    let b = and_parts (ltb low place) (ltb place high) a.0 in
    (ltb-true low place b.0, ltb-true place high b.1)

not_above : (low high : ℕ) (said : List Said) (place : ℕ) → place ≤ low → stays low high said place ≡ false
not_above low high said place h =
    and_left (ltb low place && ltb place high) (not (is_among place (skipped_places said))) (and_left (ltb low place) (ltb place high) (le-ltb low place h))

not_below : (low high : ℕ) (said : List Said) (place : ℕ) → high ≤ place → stays low high said place ≡ false
not_below low high said place h =
    and_left (ltb low place && ltb place high) (not (is_among place (skipped_places said))) (and_right (ltb low place) (ltb place high) (le-ltb place high h))

not_passed : (low high : ℕ) (said : List Said) (place : ℕ) → is_among place (skipped_places said) ≡ true → stays low high said place ≡ false
not_passed low high said place h = and_right (ltb low place && ltb place high) (not (is_among place (skipped_places said))) (rw h refl)

-- a place that was asked doesn't stay
pub asked_goes : (s : Search) → IsSound s → s.outcome ≡ Asks → (statuses : List (Option ℕ)) → ending (said_of s statuses) ≡ None
    → (i : ℕ) → 1 ≤ i → i ≤ asks s → stays (low_by s (said_of s statuses)) (high_by s (said_of s statuses)) (said_of s statuses) (place_in_round s i) ≡ false
asked_goes s sound running statuses gone i first last =
    let d : Said = said_at s statuses i in
    let n : length (said_of s statuses) ≡ asks s = length-map-range_with_len (said_at s statuses) 1 (asks s) in
    let step : i - 1 + 1 ≡ i = omega arith in
    let here : i - 1 < length (said_of s statuses) = omega (arith, n) in
    let at : get_or (said_of s statuses) (i - 1) d ≡ said_at s statuses i = said_is s statuses (i - 1) d (omega arith) ∙ ap (said_at s statuses) step in
    let no_end : is_end (said_at s statuses i) ≡ false = subst (λ (x : Said). is_end x ≡ false) at (find_none (said_of s statuses) (i - 1) d gone here) in
    let among = λ (test : Said → Bool) (passes : test (said_at s statuses i) ≡ true).
    subst (λ (x : Said). is_among x.place (map place_of (filter test (said_of s statuses))) ≡ true) at (among_said test (said_of s statuses) (i - 1) d here (subst (λ (x : Said). test x ≡ true) (sym at) passes)) in
    elim (says (said_at s statuses i) no_end) [
      | inl k ↦ elim (cases_lt (place_in_round s i) (high_by s (said_of s statuses))) [
        | inl below ↦
            let above : place_in_round s i ≤ low_by s (said_of s statuses) = greatest-among s.low (filter (λ (place : ℕ). ltb place (high_by s (said_of s statuses))) (good_places (said_of s statuses))) (place_in_round s i)
            (among_filter (λ (place : ℕ). ltb place (high_by s (said_of s statuses))) (good_places (said_of s statuses)) (place_in_round s i) (among is_good k.good) (lt-ltb (place_in_round s i) (high_by s (said_of s statuses)) below)) in
            not_above (low_by s (said_of s statuses)) (high_by s (said_of s statuses)) (said_of s statuses) (place_in_round s i) above
        | inr beyond ↦ not_below (low_by s (said_of s statuses)) (high_by s (said_of s statuses)) (said_of s statuses) (place_in_round s i) beyond
      ]
      | inr (inl k) ↦
          let below : high_by s (said_of s statuses) ≤ place_in_round s i = least-among s.high (bad_places (said_of s statuses)) (place_in_round s i) (among is_bad k.bad) in
          not_below (low_by s (said_of s statuses)) (high_by s (said_of s statuses)) (said_of s statuses) (place_in_round s i) below
      | inr (inr k) ↦
          not_passed (low_by s (said_of s statuses)) (high_by s (said_of s statuses)) (said_of s statuses) (place_in_round s i) (among is_skipped k.skipped)
    ]

pub fewer : (s : Search) → IsSound s → s.outcome ≡ Asks → (statuses : List (Option ℕ)) → ending (said_of s statuses) ≡ None
    → length (open_by s (said_of s statuses)) < length s.left
fewer s sound running statuses gone =
    let q : asks s ≡ min s.width (length s.left) = asks_some s sound running in
    let some : 1 ≤ asks s = omega (arith, q, sound.some, sound.asking running) in
    filter-lt (stays (low_by s (said_of s statuses)) (high_by s (said_of s statuses)) (said_of s statuses)) s.left (index_of (length s.left) (asks s) 1)
    (place_is s sound running 1 (omega arith) some) (asked_goes s sound running statuses gone 1 (omega arith) some)

settled_some : (low high : ℕ) (left : List ℕ) → settled low high left ≡ Asks → 1 ≤ length left
settled_some low high [] h = absurd (cc)
settled_some low high (x ∷ left) h = omega arith

pub moved_sound : (s : Search) → IsSound s → s.outcome ≡ Asks → (statuses : List (Option ℕ)) → ending (said_of s statuses) ≡ None → IsSound (moved s (said_of s statuses))
moved_sound s sound running statuses gone =
    record {
      some = sound.some;
      few = sound.few;
      apart = ends_apart s sound running statuses;
      last = omega (arith, least-le s.high (bad_places (said_of s statuses)), sound.last);
      between = All-weaker (λ (x : ℕ). stays (low_by s (said_of s statuses)) (high_by s (said_of s statuses)) (said_of s statuses) x ≡ true) (IsBetween (low_by s (said_of s statuses)) (high_by s (said_of s statuses)))
          (λ (x : ℕ) (h : stays (low_by s (said_of s statuses)) (high_by s (said_of s statuses)) (said_of s statuses) x ≡ true). stays_between (low_by s (said_of s statuses)) (high_by s (said_of s statuses)) (said_of s statuses) x h)
          (open_by s (said_of s statuses)) (filter_passes (stays (low_by s (said_of s statuses)) (high_by s (said_of s statuses)) (said_of s statuses)) s.left);
      rising = IsStrictlyIncreasing-filter (stays (low_by s (said_of s statuses)) (high_by s (said_of s statuses)) (said_of s statuses)) s.left sound.rising;
      counted = λ (_ : settled (low_by s (said_of s statuses)) (high_by s (said_of s statuses)) (open_by s (said_of s statuses)) ≡ Asks). omega (arith, fewer s sound running statuses gone, sound.counted running);
      asking = λ (h : settled (low_by s (said_of s statuses)) (high_by s (said_of s statuses)) (open_by s (said_of s statuses)) ≡ Asks). settled_some (low_by s (said_of s statuses)) (high_by s (said_of s statuses)) (open_by s (said_of s statuses)) h;
    }

-- the same of what was said
pub goes_sound : (s : Search) → IsSound s → (said : List Said) → GoesOn s said → IsSound (moved s said)
goes_sound s sound said on = rw on.of_round (moved_sound s sound on.running on.statuses (rw (← on.of_round) on.no_end))

pub goes_apart : (s : Search) → IsSound s → (said : List Said) → GoesOn s said → low_by s said < high_by s said
goes_apart s sound said on = rw on.of_round (ends_apart s sound on.running on.statuses)

-- what the code makes is the search after the round
pub made_is : (s : Search) (said : List Said) (low high : ℕ) (left : List ℕ) (outcome : WideOutcome)
    → high ≡ least s.high (bad_places said)
    → low ≡ greatest s.low (filter (λ place. ltb place high) (good_places said))
    → left ≡ filter (stays low high said) s.left
    → outcome ≡ settled low high left
    → search_of s.width low high left (s.rounds + 1) outcome ≡ moved s said
made_is s said low high left outcome h l f o = rw (o, f, l, h) refl

-- ---- before any round

pub range_more : (a n : ℕ) → range_with_len a (n + 1) ≡ range_with_len a n ++ (a + n) ∷ []
range_more a zero = let e : a + zero ≡ a = omega arith in rw e refl
range_more a (suc n) =
    let step : suc n + 1 ≡ suc (n + 1) = omega arith in
    let e : a + suc n ≡ a + 1 + n = omega arith in
    rw (step, e) (ap (λ (xs : List ℕ). a ∷ xs) (range_more (a + 1) n))

range_between : (n : ℕ) → All (IsBetween 0 n) (range_with_len 1 (n - 1))
range_between n =
    All-from_get_or (IsBetween 0 n) (range_with_len 1 (n - 1)) 0
    (λ (i : ℕ) (within : i < length (range_with_len 1 (n - 1))).
    let m : length (range_with_len 1 (n - 1)) ≡ n - 1 = length-range_with_len 1 (n - 1) in
    let e : get_or (range_with_len 1 (n - 1)) i 0 ≡ 1 + i = get_or-range_with_len 1 (n - 1) i 0 (omega (arith, m, within)) in
    (omega (arith, e), omega (arith, e, m, within)))

range_rises : (a n : ℕ) → IsStrictlyIncreasing (range_with_len a n)
range_rises a n k within =
    let m : length (range_with_len a n) ≡ n = length-range_with_len a n in
    let e : get_or (range_with_len a n) k 0 ≡ a + k = get_or-range_with_len a n k 0 (omega (arith, m, within)) in
    let f : get_or (range_with_len a n) (k + 1) 0 ≡ a + (k + 1) = get_or-range_with_len a n (k + 1) 0 (omega (arith, m, within)) in
    omega (arith, e, f)

pub begun_sound : (n k : ℕ) → 1 ≤ n → n ≤ 65_535 → 1 ≤ k → k ≤ 8 → IsSound (begun n k)
begun_sound n k some few one eight =
    let m : length (range_with_len 1 (n - 1)) ≡ n - 1 = length-range_with_len 1 (n - 1) in
    record {
      some = one;
      few = eight;
      apart = omega (arith, some);
      last = few;
      between = range_between n;
      rising = range_rises 1 (n - 1);
      counted = λ (_ : settled 0 n (range_with_len 1 (n - 1)) ≡ Asks). omega (arith, m, few);
      asking = λ (h : settled 0 n (range_with_len 1 (n - 1)) ≡ Asks). settled_some 0 n (range_with_len 1 (n - 1)) h;
    }
