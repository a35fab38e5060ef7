-- What holds of a search after any rounds that were taken.
use Rattle.std.proofs.Common.{◌≡◌, ℕ, zero, suc, ◌+◌, ◌-◌, ◌*◌, ◌/◌, ◌^◌, ◌<◌, ◌≤◌, max, min, Bool, true, false, not, ◌&&◌, ◌||◌, cond, eqb, ltb, List, [], ◌∷◌, ◌++◌, length, get_or, map, filter, Option, Some, None, ◌⊎◌, inl, inr, refl, sym, ap, ◌∙◌, arith, subst}
use Rattle.std.specs.{Prelude.{Contains, fold}, List.{range_with_len, All}}
use Rattle.std.proofs.lemmas.Bool.{cases_Bool, cases_lt, eqb-true, eqb-false, le-ltb, lt-ltb, or_cases}
use Rattle.std.proofs.lemmas.List.{append-nil, append_assoc, map-append, length-append, Folds.{find-append, list_any-append}}
use Rattle.std.proofs.lemmas.List.Elements.{filter-append, Contains-append_left, Contains-append_right, All-get_or}
use Rattle.std.proofs.lemmas.{List.FromFn.{length-range_with_len, get_or-range_with_len}, Grind.pow_more}
use Rattle.std.proofs.Math.Nat.{mul-le-mul_right, mul_assoc, mul_comm, pow-zero}
use Rattle.wide_bisect.specs.declared.{said.Said.Said, outcome.WideOutcome.TheVariants.{Asks, Found}}
use Rattle.wide_bisect.specs.Answers.{is_good, is_bad, place_of, good_places, bad_places, skipped_places, ending, is_among}
use Rattle.wide_bisect.specs.Searches.{Search, begun, settled, asks, asked, place_in_round, said_of, end_by, high_by, low_by, stays, open_by, moved, ended, after_end, after, after_all}
use Rattle.wide_bisect.specs.Sound.{IsSound}
use Rattle.wide_bisect.specs.Laws.{all_said, one_if_skipped, skipping, AreTaken, CanBegin, testable_between, IsWithinBound, EndsWereAnswered, OpenAreTestable, FoundAreNeighbours, EachIsWithinBound, OneIsHalfWay}
use Rattle.wide_bisect.proofs.{Lists.{least-le, greatest-ge}, Ranges.{filter_filter, filter_range, filter_all, filter_gone}}
use Rattle.wide_bisect.proofs.{Rounds.{asks_some, begun_sound, moved_sound, ends_apart, fewer}, Gaps.fewer_by}

-- ---- what was said, and more behind it

places_append : (p : Said → Bool) (xs ys : List Said) → map place_of (filter p (xs ++ ys)) ≡ map place_of (filter p xs) ++ map place_of (filter p ys)
places_append p xs ys = ap (map place_of) (filter-append p xs ys) ∙ map-append place_of (filter p xs) (filter p ys)

contains_first : (x : ℕ) (xs : List ℕ) (y : ℕ) → y ≡ x → Contains (x ∷ xs) y
contains_first x xs y e = (0, omega arith, sym e)

contains_later : (x : ℕ) (xs : List ℕ) (y : ℕ) → Contains xs y → Contains (x ∷ xs) y
contains_later x xs y (k, within, is) = (suc k, omega arith, is)

contains_cons : (x : ℕ) (xs : List ℕ) (y : ℕ) → Contains (x ∷ xs) y → (y ≡ x) ⊎ Contains xs y
contains_cons x xs y (zero, within, is) = inl (sym is)
contains_cons x xs y (suc k, within, is) = inr (k, omega arith, is)

contains_filter : (p : ℕ → Bool) (xs : List ℕ) (y : ℕ) → Contains (filter p xs) y → Contains xs y
contains_filter p [] y h = h
contains_filter p (x ∷ xs) y h = elim (cases_Bool (p x)) [
  | inl yes' ↦
      let e : filter p (x ∷ xs) ≡ x ∷ filter p xs = rw yes' refl in
      elim (contains_cons x (filter p xs) y (subst (λ (ys : List ℕ). Contains ys y) e h)) [
        | inl here ↦ contains_first x xs y here
        | inr later ↦ contains_later x xs y (contains_filter p xs y later)
      ]
  | inr no' ↦
      let e : filter p (x ∷ xs) ≡ filter p xs = rw no' refl in
      contains_later x xs y (contains_filter p xs y (subst (λ (ys : List ℕ). Contains ys y) e h))
]

among_contains : (y : ℕ) (xs : List ℕ) → is_among y xs ≡ true → Contains xs y
among_contains y [] h = absurd (cc)
among_contains y (x ∷ xs) h = elim (or_cases (eqb x y) (is_among y xs) h) [
  | inl e ↦ contains_first x xs y (sym (eqb-true x y e))
  | inr k ↦ contains_later x xs y (among_contains y xs k)
]

max_either : (a b : ℕ) → (max a b ≡ a) ⊎ (max a b ≡ b)
max_either a b = elim (cases_lt a b) [ inl h ↦ inr (omega arith) | inr h ↦ inl (omega arith) ]

min_either : (a b : ℕ) → (min a b ≡ a) ⊎ (min a b ≡ b)
min_either a b = elim (cases_lt a b) [ inl h ↦ inl (omega arith) | inr h ↦ inr (omega arith) ]

-- what is folded to is where it began, or one of the list
fold_stands : (f : ℕ → ℕ → ℕ) → ((a b : ℕ) → (f a b ≡ a) ⊎ (f a b ≡ b)) → (n : ℕ) (xs : List ℕ) → (fold f n xs ≡ n) ⊎ Contains xs (fold f n xs)
fold_stands f either n [] = inl refl
fold_stands f either n (x ∷ xs) = elim (fold_stands f either (f n x) xs) [
  | inl e ↦ elim (either n x) [
    | inl same ↦ inl (e ∙ same)
    | inr other ↦ inr (contains_first x xs (fold f (f n x) xs) (e ∙ other))
  ]
  | inr k ↦ inr (contains_later x xs (fold f (f n x) xs) k)
]

-- what was said already is said still
before_among : (p : Said → Bool) (xs ys : List Said) (y : ℕ) → Contains (map place_of (filter p xs)) y → Contains (map place_of (filter p (xs ++ ys))) y
before_among p xs ys y h = subst (λ (zs : List ℕ). Contains zs y) (sym (places_append p xs ys)) (Contains-append_left (map place_of (filter p xs)) (map place_of (filter p ys)) y h)

behind_among : (p : Said → Bool) (xs ys : List Said) (y : ℕ) → Contains (map place_of (filter p ys)) y → Contains (map place_of (filter p (xs ++ ys))) y
behind_among p xs ys y h = subst (λ (zs : List ℕ). Contains zs y) (sym (places_append p xs ys)) (Contains-append_right (map place_of (filter p xs)) (map place_of (filter p ys)) y h)

-- ---- the invariant

-- it ended, or stands at its ends and nothing ended it
Stands : Search → List Said → Type 0
Stands s said = ((s.outcome ≡ settled s.low s.high s.left) × (ending said ≡ None)) ⊎ ((place : ℕ) × (status : Option ℕ) × (s.outcome ≡ end_by place status))

pub record Holds (n k : ℕ) (s : Search) (said : List Said) (r x : ℕ) : Type 0 where
  pub sound : IsSound s
  width : s.width ≡ k
  rounds : s.rounds ≡ r
  few : x ≤ r
  some : x ≤ length (skipped_places said)
  low : (s.low ≡ 0) ⊎ Contains (good_places said) s.low
  high : (s.high ≡ n) ⊎ Contains (bad_places said) s.high
  left : ending said ≡ None → s.left ≡ testable_between s.low s.high said
  stands : Stands s said
  running : s.outcome ≡ Asks → length s.left * (k + 1) ^ (r - x) ≤ n - 1
  found : (lo hi skipped : ℕ) → s.outcome ≡ Found lo hi skipped → (k + 1) ^ (r - x) ≤ (k + 1) * n

pub end_not_asks : (place : ℕ) (status : Option ℕ) → end_by place status ≡ Asks → ⊥
end_not_asks place None h = absurd (cc)
end_not_asks place (Some status) h = absurd (cc)

end_not_found : (place : ℕ) (status : Option ℕ) (lo hi skipped : ℕ) → end_by place status ≡ Found lo hi skipped → ⊥
end_not_found place None lo hi skipped h = absurd (cc)
end_not_found place (Some status) lo hi skipped h = absurd (cc)

-- while it asks, nothing has ended it
no_end_yet : (s : Search) (said : List Said) → Stands s said → s.outcome ≡ Asks → ending said ≡ None
unfolding Stands
no_end_yet s said (inl open') asking = open'.1
no_end_yet s said (inr (place, status, is)) asking = absurd (end_not_asks place status (sym is ∙ asking))

no_end_found : (s : Search) (said : List Said) (lo hi skipped : ℕ) → Stands s said → s.outcome ≡ Found lo hi skipped
    → (ending said ≡ None) × (settled s.low s.high s.left ≡ Found lo hi skipped)
unfolding Stands
no_end_found s said lo hi skipped (inl open') is = (open'.1, sym open'.0 ∙ is)
no_end_found s said lo hi skipped (inr (place, status, at)) is = absurd (end_not_found place status lo hi skipped (sym at ∙ is))

one_few : (said : List Said) → one_if_skipped said ≤ 1
one_few said = elim (eqb (length (skipped_places said)) 0) as (λ (t : Bool). cond t 0 1 ≤ 1) [ true ↦ omega arith | false ↦ omega arith ]

one_some : (said : List Said) → one_if_skipped said ≤ length (skipped_places said)
one_some said = elim (cases_Bool (eqb (length (skipped_places said)) 0)) [
  | inl none' ↦ rw none' (omega arith)
  | inr some' ↦
      let h : length (skipped_places said) ≡ 0 → ⊥ = eqb-false (length (skipped_places said)) 0 some' in
      rw some' (omega (arith, h))
]

length_none : (xs : List ℕ) → length xs ≡ 0 → xs ≡ []
length_none [] h = refl
length_none (x ∷ xs) h = absurd (omega (arith, h))

-- ---- what stays open, by all that was said

not_or : (a b : Bool) → not (a || b) ≡ (not a && not b)
not_or true b = refl
not_or false b = refl

stays_off : (q l h k : Bool) → (l ≡ false) ⊎ (h ≡ false) → (q && (l && h && k)) ≡ false
stays_off true l h k (inl e) = rw e refl
stays_off true true h k (inr e) = rw e refl
stays_off true false h k (inr e) = refl
stays_off false l h k e = refl

testable_moved : (s : Search) (said new : List Said) → s.low ≤ low_by s new → low_by s new < high_by s new → high_by s new ≤ s.high
    → s.left ≡ testable_between s.low s.high said → open_by s new ≡ testable_between (low_by s new) (high_by s new) (said ++ new)
testable_moved s said new up apart down left =
    let q : ℕ → Bool = λ (place : ℕ). not (is_among place (skipped_places said)) in
    let p : ℕ → Bool = stays (low_by s new) (high_by s new) new in
    let one : open_by s new ≡ filter (stays (low_by s new) (high_by s new) new) (filter (λ (place : ℕ). not (is_among place (skipped_places said))) (range_with_len (s.low + 1) (s.high - s.low - 1))) = ap (filter (stays (low_by s new) (high_by s new) new)) left in
    one
    ∙ filter_filter (stays (low_by s new) (high_by s new) new) (λ (place : ℕ). not (is_among place (skipped_places said))) (range_with_len (s.low + 1) (s.high - s.low - 1))
    ∙ filter_range (λ (x : ℕ). not (is_among x (skipped_places said)) && stays (low_by s new) (high_by s new) new x) (λ (x : ℕ). not (is_among x (skipped_places (said ++ new)))) s.low s.high (low_by s new) (high_by s new) up apart down
    (λ (x : ℕ) (h : x ≤ low_by s new). stays_off (not (is_among x (skipped_places said))) (ltb (low_by s new) x) (ltb x (high_by s new)) (not (is_among x (skipped_places new))) (inl (le-ltb (low_by s new) x h)))
    (λ (x : ℕ) (h : high_by s new ≤ x). stays_off (not (is_among x (skipped_places said))) (ltb (low_by s new) x) (ltb x (high_by s new)) (not (is_among x (skipped_places new))) (inr (le-ltb x (high_by s new) h)))
    (λ (x : ℕ) (h : low_by s new < x) (k : x < high_by s new). rw (lt-ltb (low_by s new) x h, lt-ltb x (high_by s new) k, places_append, list_any-append) (sym (not_or (is_among x (skipped_places said)) (is_among x (skipped_places new)))))

-- ---- the bound, over a round

-- m1 (k + 1) is at most m, and m times a power at most n - 1
power_up : (n k m m1 e : ℕ) → m1 * (k + 1) ≤ m → m * (k + 1) ^ e ≤ n - 1 → m1 * (k + 1) ^ (e + 1) ≤ n - 1
power_up n k m m1 e cut bound =
    let a : m1 * (k + 1) * (k + 1) ^ e ≤ m * (k + 1) ^ e = mul-le-mul_right ((k + 1) ^ e) cut in
    let b : m1 * ((k + 1) ^ e * (k + 1)) ≡ m1 * (k + 1) * (k + 1) ^ e = omega (arith, mul_comm ((k + 1) ^ e) (k + 1), mul_assoc m1 (k + 1) ((k + 1) ^ e)) in
    rw (pow_more (k + 1) e) (omega (arith, a, b, bound))

power_found : (n k m e : ℕ) → 1 ≤ m → m * (k + 1) ^ e ≤ n - 1 → (k + 1) ^ (e + 1) ≤ (k + 1) * n
power_found n k m e some bound =
    let a : 1 * (k + 1) ^ e ≤ m * (k + 1) ^ e = mul-le-mul_right ((k + 1) ^ e) some in
    let b : (k + 1) ^ e * (k + 1) ≤ n * (k + 1) = mul-le-mul_right (k + 1) (omega (arith, a, bound)) in
    rw (pow_more (k + 1) e) (omega (arith, b, mul_comm n (k + 1)))

power_kept : (n k m m1 e : ℕ) → m1 ≤ m → m * (k + 1) ^ e ≤ n - 1 → m1 * (k + 1) ^ e ≤ n - 1
power_kept n k m m1 e less bound =
    let a : m1 * (k + 1) ^ e ≤ m * (k + 1) ^ e = mul-le-mul_right ((k + 1) ^ e) less in
    omega (arith, a, bound)

power_kept_found : (n k m e : ℕ) → 1 ≤ m → m * (k + 1) ^ e ≤ n - 1 → (k + 1) ^ e ≤ (k + 1) * n
power_kept_found n k m e some bound =
    let a : 1 * (k + 1) ^ e ≤ m * (k + 1) ^ e = mul-le-mul_right ((k + 1) ^ e) some in
    let b : 1 * n ≤ (k + 1) * n = mul-le-mul_right n (omega arith) in
    omega (arith, a, b, bound)

none_left : (m m1 : ℕ) → m1 * (m + 1) ≤ m → m1 ≡ 0
none_left m zero h = refl
none_left m (suc j) h =
    let a : 1 * (m + 1) ≤ suc j * (m + 1) = mul-le-mul_right (m + 1) (omega arith) in
    absurd (omega (arith, a, h))

-- what is left of m after a round of q of them, where k may be asked at once
cut_down : (k m q m1 : ℕ) → q ≡ min k m → m1 * (q + 1) ≤ m → m1 * (k + 1) ≤ m
cut_down k m q m1 is h = elim (cases_lt m k) [
  | inl all ↦
      let e : q ≡ m = omega arith in
      let g : m1 * (m + 1) ≤ m = subst (λ (x : ℕ). m1 * (x + 1) ≤ m) e h in
      let zero' : m1 ≡ 0 = none_left m m1 g in
      rw zero' (omega arith)
  | inr some ↦
      let e : q ≡ k = omega arith in
      subst (λ (x : ℕ). m1 * (x + 1) ≤ m) e h
]

-- ---- one round more

step_moved : (n k : ℕ) (s : Search) (said : List Said) (r x : ℕ) → Holds n k s said r x → s.outcome ≡ Asks → (statuses : List (Option ℕ)) → ending (said_of s statuses) ≡ None
    → Holds n k (moved s (said_of s statuses)) (said ++ said_of s statuses) (r + 1) (x + one_if_skipped (said_of s statuses))
unfolding Stands
step_moved n k s said r x h asking statuses gone =
    let new : List Said = said_of s statuses in
    let apart : low_by s (said_of s statuses) < high_by s (said_of s statuses) = ends_apart s h.sound asking statuses in
    let up : s.low ≤ low_by s (said_of s statuses) = greatest-ge s.low (filter (λ (place : ℕ). ltb place (high_by s (said_of s statuses))) (good_places (said_of s statuses))) in
    let down : high_by s (said_of s statuses) ≤ s.high = least-le s.high (bad_places (said_of s statuses)) in
    let before : ending said ≡ None = no_end_yet s said h.stands asking in
    let none' : ending (said ++ said_of s statuses) ≡ None = rw (find-append, before) gone in
    let few : length (open_by s (said_of s statuses)) < length s.left = fewer s h.sound asking statuses gone in
    let bound : length s.left * (k + 1) ^ (r - x) ≤ n - 1 = h.running asking in
    let q : asks s ≡ min k (length s.left) = asks_some s h.sound asking ∙ ap (λ (w : ℕ). min w (length s.left)) h.width in
    let some : 1 ≤ length s.left = h.sound.asking asking in
    record {
      sound = moved_sound s h.sound asking statuses gone;
      width = h.width;
      rounds = ap (λ (y : ℕ). y + 1) h.rounds;
      few = omega (arith, h.few, one_few (said_of s statuses));
      some = rw (places_append, length-append) (omega (arith, h.some, one_some (said_of s statuses)));
      low = elim (fold_stands max max_either s.low (filter (λ (place : ℕ). ltb place (high_by s (said_of s statuses))) (good_places (said_of s statuses)))) [
        | inl same ↦ elim h.low [
          | inl first ↦ inl (same ∙ first)
          | inr was ↦ inr (before_among is_good said (said_of s statuses) (low_by s (said_of s statuses)) (subst (λ (y : ℕ). Contains (good_places said) y) (sym same) was))
        ]
        | inr here ↦ inr (behind_among is_good said (said_of s statuses) (low_by s (said_of s statuses)) (contains_filter (λ (place : ℕ). ltb place (high_by s (said_of s statuses))) (good_places (said_of s statuses)) (low_by s (said_of s statuses)) here))
      ];
      high = elim (fold_stands min min_either s.high (bad_places (said_of s statuses))) [
        | inl same ↦ elim h.high [
          | inl last ↦ inl (same ∙ last)
          | inr was ↦ inr (before_among is_bad said (said_of s statuses) (high_by s (said_of s statuses)) (subst (λ (y : ℕ). Contains (bad_places said) y) (sym same) was))
        ]
        | inr here ↦ inr (behind_among is_bad said (said_of s statuses) (high_by s (said_of s statuses)) here)
      ];
      left = λ (_ : ending (said ++ said_of s statuses) ≡ None). testable_moved s said (said_of s statuses) up apart down (h.left before);
      stands = inl (refl, none');
      running = λ (_ : settled (low_by s (said_of s statuses)) (high_by s (said_of s statuses)) (open_by s (said_of s statuses)) ≡ Asks).
          elim (cases_Bool (eqb (length (skipped_places (said_of s statuses))) 0)) [
            | inl unskipped ↦
                let gone' : skipped_places (said_of s statuses) ≡ [] = length_none (skipped_places (said_of s statuses)) (eqb-true (length (skipped_places (said_of s statuses))) 0 unskipped) in
                let cut : length (open_by s (said_of s statuses)) * (k + 1) ≤ length s.left = cut_down k (length s.left) (asks s) (length (open_by s (said_of s statuses))) q (fewer_by s h.sound asking statuses gone gone') in
                let e : r + 1 - (x + 0) ≡ r - x + 1 = omega (arith, h.few) in
                rw (unskipped, e) (power_up n k (length s.left) (length (open_by s (said_of s statuses))) (r - x) cut bound)
            | inr some' ↦
                let e : r + 1 - (x + 1) ≡ r - x = omega arith in
                rw (some', e) (power_kept n k (length s.left) (length (open_by s (said_of s statuses))) (r - x) (omega (arith, few)) bound)
          ];
      found = λ (lo hi skipped : ℕ) (_ : settled (low_by s (said_of s statuses)) (high_by s (said_of s statuses)) (open_by s (said_of s statuses)) ≡ Found lo hi skipped).
          elim (cases_Bool (eqb (length (skipped_places (said_of s statuses))) 0)) [
            | inl unskipped ↦
                let e : r + 1 - (x + 0) ≡ r - x + 1 = omega (arith, h.few) in
                rw (unskipped, e) (power_found n k (length s.left) (r - x) some bound)
            | inr some' ↦
                let e : r + 1 - (x + 1) ≡ r - x = omega arith in
                rw (some', e) (power_kept_found n k (length s.left) (r - x) some bound)
          ];
    }

some_not_none : (end : Said) → Some end ≡ None → ⊥
some_not_none end h = absurd (cc)

step_ended : (n k : ℕ) (s : Search) (said : List Said) (r x : ℕ) → Holds n k s said r x → s.outcome ≡ Asks → (statuses : List (Option ℕ)) (end : Said) → ending (said_of s statuses) ≡ Some end
    → Holds n k (ended s end) (said ++ said_of s statuses) (r + 1) (x + one_if_skipped (said_of s statuses))
unfolding Stands
step_ended n k s said r x h asking statuses end ends =
    let before : ending said ≡ None = no_end_yet s said h.stands asking in
    let some' : ending (said ++ said_of s statuses) ≡ Some end = rw (find-append, before) ends in
    record {
      sound = record {
        some = h.sound.some;
        few = h.sound.few;
        apart = h.sound.apart;
        last = h.sound.last;
        between = h.sound.between;
        rising = h.sound.rising;
        counted = λ (e : end_by end.place end.status ≡ Asks). absurd (end_not_asks end.place end.status e);
        asking = λ (e : end_by end.place end.status ≡ Asks). absurd (end_not_asks end.place end.status e);
      };
      width = h.width;
      rounds = ap (λ (y : ℕ). y + 1) h.rounds;
      few = omega (arith, h.few, one_few (said_of s statuses));
      some = rw (places_append, length-append) (omega (arith, h.some, one_some (said_of s statuses)));
      low = elim h.low [ inl first ↦ inl first | inr was ↦ inr (before_among is_good said (said_of s statuses) s.low was) ];
      high = elim h.high [ inl last ↦ inl last | inr was ↦ inr (before_among is_bad said (said_of s statuses) s.high was) ];
      left = λ (e : ending (said ++ said_of s statuses) ≡ None). absurd (some_not_none end (sym some' ∙ e));
      stands = inr (end.place, end.status, refl);
      running = λ (e : end_by end.place end.status ≡ Asks). absurd (end_not_asks end.place end.status e);
      found = λ (lo hi skipped : ℕ) (e : end_by end.place end.status ≡ Found lo hi skipped). absurd (end_not_found end.place end.status lo hi skipped e);
    }

step_by : (n k : ℕ) (s : Search) (said : List Said) (r x : ℕ) → Holds n k s said r x → s.outcome ≡ Asks → (statuses : List (Option ℕ)) (end : Option Said) → ending (said_of s statuses) ≡ end
    → Holds n k (after_end s (said_of s statuses) end) (said ++ said_of s statuses) (r + 1) (x + one_if_skipped (said_of s statuses))
step_by n k s said r x h asking statuses None e = step_moved n k s said r x h asking statuses e
step_by n k s said r x h asking statuses (Some end) e = step_ended n k s said r x h asking statuses end e

step : (n k : ℕ) (s : Search) (said : List Said) (r x : ℕ) → Holds n k s said r x → s.outcome ≡ Asks → (statuses : List (Option ℕ))
    → Holds n k (after s statuses) (said ++ said_of s statuses) (r + 1) (x + one_if_skipped (said_of s statuses))
step n k s said r x h asking statuses = step_by n k s said r x h asking statuses (ending (said_of s statuses)) refl

steps : (n k : ℕ) (rounds : List (List (Option ℕ))) (s : Search) (said : List Said) (r x : ℕ) → Holds n k s said r x → AreTaken s rounds
    → Holds n k (after_all s rounds) (said ++ all_said s rounds) (r + length rounds) (x + skipping s rounds)
steps n k [] s said r x h taken =
    let a : r + 0 ≡ r = omega arith in
    let b : x + 0 ≡ x = omega arith in
    rw (append-nil, a, b) h
steps n k (statuses ∷ rounds) s said r x h taken =
    let one = step n k s said r x h taken.0 statuses in
    let rest = steps n k rounds (after s statuses) (said ++ said_of s statuses) (r + 1) (x + one_if_skipped (said_of s statuses)) one taken.2 in
    let a : r + suc (length rounds) ≡ r + 1 + length rounds = omega arith in
    let b : x + (one_if_skipped (said_of s statuses) + skipping (after s statuses) rounds) ≡ x + one_if_skipped (said_of s statuses) + skipping (after s statuses) rounds = omega arith in
    let c : said ++ (said_of s statuses ++ all_said (after s statuses) rounds) ≡ (said ++ said_of s statuses) ++ all_said (after s statuses) rounds = sym (append_assoc said (said_of s statuses) (all_said (after s statuses) rounds)) in
    rw (a, b, c) rest

pow_none : (b : ℕ) → b ^ 0 ≡ 1
pow_none b = pow-zero b

settled_apart : (n : ℕ) (lo hi skipped : ℕ) → settled 0 n (range_with_len 1 (n - 1)) ≡ Found lo hi skipped → 1 ≤ n → n ≡ 1
settled_apart n lo hi skipped h some = elim (cases_Bool (eqb (length (range_with_len 1 (n - 1))) 0)) [
  | inl none' ↦
      let e : length (range_with_len 1 (n - 1)) ≡ 0 = eqb-true (length (range_with_len 1 (n - 1))) 0 none' in
      let m : length (range_with_len 1 (n - 1)) ≡ n - 1 = length-range_with_len 1 (n - 1) in
      omega (arith, e, m, some)
  | inr some' ↦
      let e : settled 0 n (range_with_len 1 (n - 1)) ≡ Asks = rw some' refl in
      absurd (cc)
]

starts : (n k : ℕ) → CanBegin n k → Holds n k (begun n k) [] 0 0
unfolding Stands
starts n k can =
    let none_yet : 0 - 0 ≡ 0 = omega arith in
    let m : length (range_with_len 1 (n - 1)) ≡ n - 1 = length-range_with_len 1 (n - 1) in
    record {
      sound = begun_sound n k can.some can.few can.one can.eight;
      width = refl;
      rounds = refl;
      few = omega arith;
      some = omega arith;
      low = inl refl;
      high = inl refl;
      left = λ (_ : None ≡ None).
          let whole : n - 0 - 1 ≡ n - 1 = omega arith in
          rw whole (sym (filter_all (λ (place : ℕ). true) (range_with_len 1 (n - 1)) (λ (place : ℕ). refl)));
      stands = inl (refl, refl);
      running = λ (_ : settled 0 n (range_with_len 1 (n - 1)) ≡ Asks). rw (none_yet, pow_none (k + 1)) (omega (arith, m));
      found = λ (lo hi skipped : ℕ) (is : settled 0 n (range_with_len 1 (n - 1)) ≡ Found lo hi skipped).
          let one : n ≡ 1 = settled_apart n lo hi skipped is can.some in
          rw (none_yet, pow_none (k + 1), one) (omega arith);
    }

pub after_any : (n k : ℕ) (rounds : List (List (Option ℕ))) → CanBegin n k → AreTaken (begun n k) rounds
    → Holds n k (after_all (begun n k) rounds) (all_said (begun n k) rounds) (0 + length rounds) (0 + skipping (begun n k) rounds)
after_any n k rounds can taken = steps n k rounds (begun n k) [] 0 0 (starts n k can) taken

-- ---- the laws

pub ends_were_answered : EndsWereAnswered
ends_were_answered n k rounds can taken = let h = after_any n k rounds can taken in (h.low, h.high)

pub open_are_testable : OpenAreTestable
open_are_testable n k rounds can taken gone = let h = after_any n k rounds can taken in h.left gone

bound_of : (n k : ℕ) (s : Search) (said : List Said) (r x : ℕ) → Holds n k s said r x → IsWithinBound n k (length s.left) r x (length (skipped_places said)) s
bound_of n k s said r x h = record { counted = h.rounds; some = h.some; running = h.running; found = h.found }

pub each_is_within_bound : EachIsWithinBound
each_is_within_bound n k rounds can taken =
    let h = after_any n k rounds can taken in
    let a : 0 + length rounds ≡ length rounds = omega arith in
    let b : 0 + skipping (begun n k) rounds ≡ skipping (begun n k) rounds = omega arith in
    bound_of n k (after_all (begun n k) rounds) (all_said (begun n k) rounds) (length rounds) (skipping (begun n k) rounds) (rw (a, b) at h)

record IsFoundAt (low high : ℕ) (left : List ℕ) (lo hi skipped : ℕ) : Type 0 where
  none_left : length left ≡ 0
  lo_is : lo ≡ low
  hi_is : hi ≡ high
  skipped_is : skipped ≡ high - low - 1

settled_at : (t : Bool) (low high : ℕ) (left : List ℕ) (lo hi skipped : ℕ) → eqb (length left) 0 ≡ t → cond t (Found low high (high - low - 1)) Asks ≡ Found lo hi skipped → IsFoundAt low high left lo hi skipped
settled_at true low high left lo hi skipped e h = record { none_left = eqb-true (length left) 0 e; lo_is = cc; hi_is = cc; skipped_is = cc }
settled_at false low high left lo hi skipped e h = absurd (cc)

not_false : (b : Bool) → not b ≡ false → b ≡ true
not_false true h = refl
not_false false h = absurd (cc)

passed_over : (low high : ℕ) (said : List Said) → testable_between low high said ≡ [] → (place : ℕ) → low < place → place < high → Contains (skipped_places said) place
passed_over low high said none' place above below =
    let p : ℕ → Bool = λ (x : ℕ). not (is_among x (skipped_places said)) in
    let all : All (λ (x : ℕ). not (is_among x (skipped_places said)) ≡ false) (range_with_len (low + 1) (high - low - 1)) = filter_gone (λ (x : ℕ). not (is_among x (skipped_places said))) (range_with_len (low + 1) (high - low - 1)) none' in
    let m : length (range_with_len (low + 1) (high - low - 1)) ≡ high - low - 1 = length-range_with_len (low + 1) (high - low - 1) in
    let e : get_or (range_with_len (low + 1) (high - low - 1)) (place - low - 1) 0 ≡ low + 1 + (place - low - 1) = get_or-range_with_len (low + 1) (high - low - 1) (place - low - 1) 0 (omega arith) in
    let at : low + 1 + (place - low - 1) ≡ place = omega arith in
    let one : not (is_among (get_or (range_with_len (low + 1) (high - low - 1)) (place - low - 1) 0) (skipped_places said)) ≡ false = All-get_or (λ (x : ℕ). not (is_among x (skipped_places said)) ≡ false) (range_with_len (low + 1) (high - low - 1)) (place - low - 1) 0 (omega (arith, m)) all in
    let here : not (is_among place (skipped_places said)) ≡ false = subst (λ (x : ℕ). not (is_among x (skipped_places said)) ≡ false) (e ∙ at) one in
    among_contains place (skipped_places said) (not_false (is_among place (skipped_places said)) here)

found_of : (n k : ℕ) (s : Search) (said : List Said) (r x lo hi skipped : ℕ) → Holds n k s said r x → s.outcome ≡ Found lo hi skipped
    → (lo ≡ s.low) × (hi ≡ s.high) × (lo + skipped + 1 ≡ hi) × ((place : ℕ) → lo < place → place < hi → Contains (skipped_places said) place)
found_of n k s said r x lo hi skipped h is =
    let both : (ending said ≡ None) × (settled s.low s.high s.left ≡ Found lo hi skipped) = no_end_found s said lo hi skipped h.stands is in
    let at : IsFoundAt s.low s.high s.left lo hi skipped = settled_at (eqb (length s.left) 0) s.low s.high s.left lo hi skipped refl both.1 in
    let gone : testable_between s.low s.high said ≡ [] = sym (h.left both.0) ∙ length_none s.left at.none_left in (
      at.lo_is,
      at.hi_is,
      omega (arith, at.lo_is, at.hi_is, at.skipped_is, h.sound.apart),
      λ (place : ℕ) (above : lo < place) (below : place < hi). passed_over s.low s.high said gone place (omega (arith, at.lo_is)) (omega (arith, at.hi_is)),
    )

pub found_are_neighbours : FoundAreNeighbours
found_are_neighbours n k rounds lo hi skipped can taken is =
    found_of n k (after_all (begun n k) rounds) (all_said (begun n k) rounds) (0 + length rounds) (0 + skipping (begun n k) rounds) lo hi skipped (after_any n k rounds can taken) is

one_of : (w m : ℕ) → w ≡ 1 → 1 ≤ m → min w m ≡ 1
one_of w m is some = omega arith

half_place : (s : Search) → s.left ≡ range_with_len (s.low + 1) (s.high - s.low - 1) → length s.left ≡ s.high - s.low - 1 → asks s ≡ 1 → 1 ≤ length s.left
    → place_in_round s 1 ≡ s.low + (s.high - s.low) / 2
half_place s left m one some =
    let i : 1 * (length s.left + 1) / (1 + 1) - 1 ≡ (s.high - s.low) / 2 - 1 = omega (arith, m) in
    let e : get_or (range_with_len (s.low + 1) (s.high - s.low - 1)) ((s.high - s.low) / 2 - 1) 0 ≡ s.low + 1 + ((s.high - s.low) / 2 - 1) = get_or-range_with_len (s.low + 1) (s.high - s.low - 1) ((s.high - s.low) / 2 - 1) 0 (omega (arith, m)) in
    let a : place_in_round s 1 ≡ get_or s.left (1 * (length s.left + 1) / (1 + 1) - 1) 0 = ap (λ (q : ℕ). get_or s.left (1 * (length s.left + 1) / (q + 1) - 1) 0) one in
    a ∙ ap (λ (j : ℕ). get_or s.left j 0) i ∙ ap (λ (xs : List ℕ). get_or xs ((s.high - s.low) / 2 - 1) 0) left ∙ e ∙ omega (arith, m)

half_of : (n : ℕ) (s : Search) (said : List Said) (r x : ℕ) → Holds n 1 s said r x → s.outcome ≡ Asks → skipped_places said ≡ [] → asked s ≡ (s.low + (s.high - s.low) / 2) ∷ []
half_of n s said r x h asking unskipped =
    let gone : ending said ≡ None = no_end_yet s said h.stands asking in
    let all : testable_between s.low s.high said ≡ range_with_len (s.low + 1) (s.high - s.low - 1) = filter_all (λ (place : ℕ). not (is_among place (skipped_places said))) (range_with_len (s.low + 1) (s.high - s.low - 1)) (λ (place : ℕ). rw unskipped refl) in
    let left : s.left ≡ range_with_len (s.low + 1) (s.high - s.low - 1) = h.left gone ∙ all in
    let m : length s.left ≡ s.high - s.low - 1 = ap length left ∙ length-range_with_len (s.low + 1) (s.high - s.low - 1) in
    let one : asks s ≡ 1 = asks_some s h.sound asking ∙ one_of s.width (length s.left) h.width (h.sound.asking asking) in
    let index : ℕ = 1 * (length s.left + 1) / (1 + 1) - 1 in
    let place : place_in_round s 1 ≡ s.low + (s.high - s.low) / 2 = half_place s left m one (h.sound.asking asking) in
    let listed : asked s ≡ map (place_in_round s) (range_with_len 1 1) = ap (λ (q : ℕ). map (place_in_round s) (range_with_len 1 q)) one in
    listed ∙ ap (λ (y : ℕ). y ∷ []) place

pub one_is_half_way : OneIsHalfWay
one_is_half_way n rounds can taken unskipped asking =
    half_of n (after_all (begun n 1) rounds) (all_said (begun n 1) rounds) (0 + length rounds) (0 + skipping (begun n 1) rounds) (after_any n 1 rounds can taken) asking unskipped
