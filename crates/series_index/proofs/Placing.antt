-- Values placed one after another: what they were before, how many there are, and which are taken away.
use Rattle.std.proofs.Common.{◌≡◌, ℕ, suc, ◌+◌, ◌<◌, ◌≤◌, ℤ, Bool, true, false, cond, ◌==◌, ◌&&◌, not, List, [], ◌∷◌, ◌++◌, length, All, refl, sym, ap, subst, ◌∙◌, inl, inr, arith}
use Rattle.std.{specs.Prelude.{filter, get_or}, specs.List.Sorted.IsStrictlyIncreasing, proofs.lemmas.Grind.common_steps}
use Rattle.std.proofs.lemmas.{Bool.{cases_Bool, cases_order, cases_eq, lt-ltb, le-ltb, eq-eqb, ne_eqb}, List.Elements.{All-nil, All-cons, All-head, All-tail}}
use Rattle.std.proofs.lemmas.List.{length_push, map-append, get_or_append_left, get_or_at, Filters.length-filter_both}
use Rattle.segment_model.specs.{Segments.{Observation, Position, values_of, position_values}, Limits.{IsSmall, HasStepsInOrder, WithinLimits, commits_of}}
use Rattle.segment_model.specs.Edits.{position_of, with_value, inserted, has_values, by_another, without_step, removed}
use Rattle.point_list.{specs.Places.{CameBy, MayCome}, proofs.Places.{RisesFrom, lower, to-rises}}
use Rattle.point_list.proofs.Kept.{few-inserted, within-inserted, within-removed, AreSmall, all-left, all-right, small-out}
use Rattle.series_index.{specs.declared.coming.Coming.Coming, specs.Log.{observed, all_placed, is_of_step, MayBePlaced, HaveRoom}, proofs.Undo.removed-inserted}
use Rattle.segment_model.proofs.Inserted.{count-inserted, size-inserted}

-- ---- one value, by where its commit stands to that of the first position
pub put-below : (commit : ℕ) (x : Observation) (p : Position) (points : List Position) → commit < p.commit → inserted commit x (p ∷ points) ≡ position_of commit x ∷ p ∷ points
put-below commit x p points below = rw (lt-ltb commit p.commit below) refl

pub put-at : (commit : ℕ) (x : Observation) (p : Position) (points : List Position) → p.commit ≡ commit → inserted commit x (p ∷ points) ≡ with_value x p ∷ points
put-at commit x p points same = rw (le-ltb commit p.commit (omega (arith, same)), eq-eqb p.commit commit same) refl

pub put-above : (commit : ℕ) (x : Observation) (p : Position) (points : List Position) → p.commit < commit → inserted commit x (p ∷ points) ≡ p ∷ inserted commit x points
put-above commit x p points above = rw (le-ltb commit p.commit (omega (arith, above)), ne_eqb p.commit commit (λ e. omega (arith, e, above))) refl

-- ---- how many there are
pub count-placed : (coming : List Coming) (points : List Position) → length (values_of (all_placed coming points)) ≡ length (values_of points) + length coming
count-placed [] points = omega arith
count-placed (x ∷ coming) points =
    let rest = count-placed coming (inserted x.commit (observed x) points) in
    let one = count-inserted x.commit (observed x) points in
    omega (arith, rest, one)

pub size-placed : (coming : List Coming) (points : List Position) → length (all_placed coming points) ≤ length points + length coming
size-placed [] points = omega arith
size-placed (x ∷ coming) points =
    let rest = size-placed coming (inserted x.commit (observed x) points) in
    let one = size-inserted x.commit (observed x) points in
    omega (arith, rest, one)

pub placed-push : (coming : List Coming) (x : Coming) (points : List Position) → all_placed (coming ++ x ∷ []) points ≡ inserted x.commit (observed x) (all_placed coming points)
placed-push [] x points = refl
placed-push (y ∷ coming) x points = placed-push coming x (inserted y.commit (observed y) points)

-- ---- a value that was placed within the limits might come
module _ (P : Position → Type 0) (less : (x : Observation) (p : Position) → P (with_value x p) → P p) where
  all-before-one : (commit : ℕ) (x : Observation) (points : List Position) → All P (inserted commit x points) → All P points
  all-before-one commit x [] all = All-nil P
  all-before-one commit x (p ∷ points) all = elim (cases_order commit p.commit) [
    | inl same ↦
        let put : All P (with_value x p ∷ points) = subst (All P) (put-at commit x p points (sym same)) all in
        All-cons P p points (less x p (All-head P (with_value x p) points put)) (All-tail P (with_value x p) points put)
    | inr other ↦ elim other [
      | inl below ↦
          let put : All P (position_of commit x ∷ p ∷ points) = subst (All P) (put-below commit x p points below) all in
          All-tail P (position_of commit x) (p ∷ points) put
      | inr above ↦
          let put : All P (p ∷ inserted commit x points) = subst (All P) (put-above commit x p points above) all in
          All-cons P p points (All-head P p (inserted commit x points) put) (all-before-one commit x points (All-tail P p (inserted commit x points) put))
    ]
  ]

  pub all-before : (coming : List Coming) (points : List Position) → All P (all_placed coming points) → All P points
  all-before [] points all = all
  all-before (x ∷ coming) points all = all-before-one x.commit (observed x) points (all-before coming (inserted x.commit (observed x) points) all)

small-parts : (x : Observation) (p : Position) → AreSmall (with_value x p) → All IsSmall (position_values p ++ x.value ∷ [])
small-parts x p all = subst (All IsSmall) (map-append (λ (y : Observation). y.value) p.samples (x ∷ [])) all

small-less : (x : Observation) (p : Position) → AreSmall (with_value x p) → AreSmall p
small-less x p all = all-left (position_values p) (x.value ∷ []) (small-parts x p all)

order-less : (x : Observation) (p : Position) → HasStepsInOrder (with_value x p) → HasStepsInOrder p
order-less x p order i j d le lt =
    let longer : length (p.samples ++ x ∷ []) ≡ length p.samples + 1 = length_push p.samples x in
    let rise : (get_or (p.samples ++ x ∷ []) i d).step ≤ (get_or (p.samples ++ x ∷ []) j d).step = order i j d le (omega (arith, lt, longer)) in
    let one : (get_or (p.samples ++ x ∷ []) i d).step ≡ (get_or p.samples i d).step = ap (λ (y : Observation). y.step) (get_or_append_left p.samples (x ∷ []) d i (omega (arith, le, lt))) in
    let two : (get_or (p.samples ++ x ∷ []) j d).step ≡ (get_or p.samples j d).step = ap (λ (y : Observation). y.step) (get_or_append_left p.samples (x ∷ []) d j lt) in
    omega (arith, rise, one, two)

order-last : (x : Observation) (p : Position) → HasStepsInOrder (with_value x p) → All (λ (y : Observation). y.step ≤ x.step) p.samples
order-last x p order k d lt =
    let longer : length (p.samples ++ x ∷ []) ≡ length p.samples + 1 = length_push p.samples x in
    let rise : (get_or (p.samples ++ x ∷ []) k d).step ≤ (get_or (p.samples ++ x ∷ []) (length p.samples) d).step = order k (length p.samples) d (omega (arith, lt)) (omega (arith, longer)) in
    let one : (get_or (p.samples ++ x ∷ []) k d).step ≡ (get_or p.samples k d).step = ap (λ (y : Observation). y.step) (get_or_append_left p.samples (x ∷ []) d k lt) in
    let two : (get_or (p.samples ++ x ∷ []) (length p.samples) d).step ≡ x.step = ap (λ (y : Observation). y.step) (get_or_at p.samples x [] d (length p.samples) refl) in
    omega (arith, rise, one, two)

-- no position from there on is the commit's
none-later : (commit step low : ℕ) (points : List Position) → commit < low → RisesFrom low points → All (CameBy commit step) points
none-later commit step low [] lt rises = All-nil (CameBy commit step)
none-later commit step low (p ∷ points) lt rises =
    All-cons (CameBy commit step) p points (λ same. absurd (omega (arith, same, lt, rises.0))) (none-later commit step (suc p.commit) points (omega (arith, rises.0, lt)) rises.1)

came-before : (commit : ℕ) (x : Observation) (low : ℕ) (points : List Position) → RisesFrom low points → All HasStepsInOrder (inserted commit x points) → All (CameBy commit x.step) points
came-before commit x low [] rises all = All-nil (CameBy commit x.step)
came-before commit x low (p ∷ points) rises all = elim (cases_order commit p.commit) [
  | inl same ↦
      let put : All HasStepsInOrder (with_value x p ∷ points) = subst (All HasStepsInOrder) (put-at commit x p points (sym same)) all in
      All-cons (CameBy commit x.step) p points (λ at. order-last x p (All-head HasStepsInOrder (with_value x p) points put))
      (none-later commit x.step (suc p.commit) points (omega (arith, same)) rises.1)
  | inr other ↦ elim other [
    | inl below ↦ none-later commit x.step (suc commit) (p ∷ points) (omega arith) (omega (arith, below), rises.1)
    | inr above ↦
        let put : All HasStepsInOrder (p ∷ inserted commit x points) = subst (All HasStepsInOrder) (put-above commit x p points above) all in
        All-cons (CameBy commit x.step) p points (λ at. absurd (omega (arith, at, above)))
        (came-before commit x (suc p.commit) points rises.1 (All-tail HasStepsInOrder p (inserted commit x points) put))
  ]
]

small-before : (commit : ℕ) (x : Observation) (points : List Position) → All AreSmall (inserted commit x points) → IsSmall x.value
small-before commit x [] all = All-head IsSmall x.value [] (All-head AreSmall (position_of commit x) [] all)
small-before commit x (p ∷ points) all = elim (cases_order commit p.commit) [
  | inl same ↦
      let put : All AreSmall (with_value x p ∷ points) = subst (All AreSmall) (put-at commit x p points (sym same)) all in
      All-head IsSmall x.value [] (all-right (position_values p) (x.value ∷ []) (small-parts x p (All-head AreSmall (with_value x p) points put)))
  | inr other ↦ elim other [
    | inl below ↦
        let put : All AreSmall (position_of commit x ∷ p ∷ points) = subst (All AreSmall) (put-below commit x p points below) all in
        All-head IsSmall x.value [] (All-head AreSmall (position_of commit x) (p ∷ points) put)
    | inr above ↦
        let put : All AreSmall (p ∷ inserted commit x points) = subst (All AreSmall) (put-above commit x p points above) all in
        small-before commit x points (All-tail AreSmall p (inserted commit x points) put)
  ]
]

pub may-come : (x : Coming) (coming : List Coming) (points : List Position) → WithinLimits (all_placed (x ∷ coming) points) → IsStrictlyIncreasing (commits_of points) → MayCome points x.commit x.step x.value
may-come x coming points within rising = record {
  small = small-before x.commit (observed x) points
      (all-before AreSmall small-less coming (inserted x.commit (observed x) points) (small-out (all_placed (x ∷ coming) points) within.small));
  in_order = came-before x.commit (observed x) 0 points (to-rises 0 points rising (λ some. omega arith))
      (all-before HasStepsInOrder order-less coming (inserted x.commit (observed x) points) within.steps_in_order);
}

-- ---- taken away before or after
same-commit : (commit step : ℕ) (p : Position) → (without_step commit step p).commit ≡ p.commit
same-commit commit step p = elim (p.commit == commit) as (λ b. (cond b (record { commit = p.commit; samples = filter (by_another step) p.samples }) p).commit ≡ p.commit) [ true ↦ refl | false ↦ refl ]

rises-removed : (commit step low : ℕ) (points : List Position) → RisesFrom low points → RisesFrom low (removed commit step points)
rises-removed commit step low [] rises = tt
rises-removed commit step low (p ∷ points) rises =
    let rest : RisesFrom (suc p.commit) (removed commit step points) = rises-removed commit step (suc p.commit) points rises.1 in
    elim (cases_Bool (has_values (without_step commit step p))) [
      | inl kept ↦ rw kept (rw (same-commit commit step p) (rises.0, rest))
      | inr gone ↦ rw gone (lower (suc p.commit) low (removed commit step points) (omega (arith, rises.0)) rest)
    ]

rises-inserted : (low commit : ℕ) (x : Observation) (points : List Position) → low ≤ commit → RisesFrom low points → RisesFrom low (inserted commit x points)
rises-inserted low commit x [] le rises = (le, tt)
rises-inserted low commit x (p ∷ points) le rises = elim (cases_order commit p.commit) [
  | inl same ↦ subst (RisesFrom low) (sym (put-at commit x p points (sym same))) rises
  | inr other ↦ elim other [
    | inl below ↦ subst (RisesFrom low) (sym (put-below commit x p points below)) (le, (omega (arith, below), rises.1))
    | inr above ↦ subst (RisesFrom low) (sym (put-above commit x p points above)) (rises.0, rises-inserted (suc p.commit) commit x points (omega (arith, above)) rises.1)
  ]
]

-- before all others
put-first : (commit low : ℕ) (x : Observation) (points : List Position) → commit < low → RisesFrom low points → inserted commit x points ≡ position_of commit x ∷ points
put-first commit low x [] lt rises = refl
put-first commit low x (p ∷ points) lt rises = put-below commit x p points (omega (arith, lt, rises.0))

has-more : (x : Observation) (p : Position) → has_values (with_value x p) ≡ true
has-more x p = grind (arith, common_steps)

none-left : (xs : List Observation) → elim xs as (λ ys. Bool) [ [] ↦ false | y ∷ ys ↦ true ] ≡ false → xs ≡ []
none-left xs none = grind (arith, common_steps)

-- a value of another step or commit stays
module _ (commit step c : ℕ) (x : Observation) (other : (c == commit && x.step == step) ≡ false) where
  another : c ≡ commit → by_another step x ≡ true
  another same = grind (arith, common_steps)

  cut-more : (p : Position) → p.commit ≡ c → without_step commit step (with_value x p) ≡ with_value x (without_step commit step p)
  cut-more p at = grind (arith, common_steps)

  cut-new : without_step commit step (position_of c x) ≡ position_of c x
  cut-new = grind (arith, common_steps)

  cut-first : (p : Position) (points : List Position) → has_values (without_step commit step p) ≡ true → removed commit step (p ∷ points) ≡ without_step commit step p ∷ removed commit step points
  cut-first p points kept = ap (λ b. cond b (without_step commit step p ∷ removed commit step points) (removed commit step points)) kept

  cut-gone : (p : Position) (points : List Position) → has_values (without_step commit step p) ≡ false → removed commit step (p ∷ points) ≡ removed commit step points
  cut-gone p points gone = ap (λ b. cond b (without_step commit step p ∷ removed commit step points) (removed commit step points)) gone

  new-first : (points : List Position) → removed commit step (position_of c x ∷ points) ≡ position_of c x ∷ removed commit step points
  new-first points = cut-first (position_of c x) points (ap has_values cut-new) ∙ ap (λ q. q ∷ removed commit step points) cut-new

  pub removed-other : (low : ℕ) (points : List Position) → RisesFrom low points → removed commit step (inserted c x points) ≡ inserted c x (removed commit step points)
  removed-other low [] rises = new-first []
  removed-other low (p ∷ points) rises =
      let w : Position = without_step commit step p in
      let rest : List Position = removed commit step points in
      let w_is : w.commit ≡ p.commit = same-commit commit step p in
      elim (cases_order c p.commit) [
        | inl same ↦
            ap (removed commit step) (put-at c x p points (sym same))
            ∙ cut-first (with_value x p) points (ap has_values (cut-more p (sym same)) ∙ has-more x w)
            ∙ ap (λ q. q ∷ rest) (cut-more p (sym same))
            ∙ elim (cases_Bool (has_values w)) [
              | inl kept ↦ sym (ap (inserted c x) (cut-first p points kept) ∙ put-at c x w rest (w_is ∙ sym same))
              | inr gone ↦
                  ap (λ (xs : List Observation). let q : Position = record { commit = w.commit; samples = xs ++ x ∷ [] } in q ∷ rest) (none-left w.samples gone)
                  ∙ ap (λ n. position_of n x ∷ rest) (w_is ∙ sym same)
                  ∙ sym (ap (inserted c x) (cut-gone p points gone) ∙ put-first c (suc p.commit) x rest (omega (arith, same)) (rises-removed commit step (suc p.commit) points rises.1))
            ]
        | inr apart ↦ elim apart [
          | inl below ↦
              ap (removed commit step) (put-below c x p points below) ∙ new-first (p ∷ points)
              ∙ sym (put-first c (suc c) x (removed commit step (p ∷ points)) (omega arith) (rises-removed commit step (suc c) (p ∷ points) (omega (arith, below), rises.1)))
          | inr above ↦
              ap (removed commit step) (put-above c x p points above)
              ∙ elim (cases_Bool (has_values w)) [
                | inl kept ↦
                    cut-first p (inserted c x points) kept
                    ∙ ap (λ ps. w ∷ ps) (removed-other (suc p.commit) points rises.1)
                    ∙ sym (ap (inserted c x) (cut-first p points kept) ∙ put-above c x w rest (omega (arith, w_is, above)))
                | inr gone ↦ cut-gone p (inserted c x points) gone ∙ removed-other (suc p.commit) points rises.1 ∙ sym (ap (inserted c x) (cut-gone p points gone))
              ]
        ]
      ]

-- all that is of the step
pub removed-all : (commit step : ℕ) (coming : List Coming) (points : List Position) → RisesFrom 0 points
    → removed commit step (all_placed coming points) ≡ all_placed (filter (λ x. not (is_of_step commit step x)) coming) (removed commit step points)
removed-all commit step [] points rises = refl
removed-all commit step (x ∷ coming) points rises =
    let more : List Position = inserted x.commit (observed x) points in
    let left : List Coming = filter (λ y. not (is_of_step commit step y)) coming in
    removed-all commit step coming more (rises-inserted 0 x.commit (observed x) points (omega arith) rises)
    ∙ elim (cases_Bool (is_of_step commit step x)) [
      | inl hit ↦ ap (all_placed left) (gone hit) ∙ ap (λ b. all_placed (cond (not b) (x ∷ left) left) (removed commit step points)) (sym hit)
      | inr miss ↦ ap (all_placed left) (removed-other commit step x.commit (observed x) miss 0 points rises) ∙ ap (λ b. all_placed (cond (not b) (x ∷ left) left) (removed commit step points)) (sym miss)
    ]
  where
    both : (a b : Bool) → (a && b) ≡ true → (a ≡ true) × (b ≡ true)
    both true b e = (refl, e)
    both false b e = absurd (let no : false ≡ true = e in cc)

    gone : is_of_step commit step x ≡ true → removed commit step (inserted x.commit (observed x) points) ≡ removed commit step points
    gone hit =
        let two = both (x.commit == commit) (x.step == step) hit in
        let at : x.commit ≡ commit = elim (cases_eq x.commit commit) [ inl e ↦ e | inr apart ↦ absurd (let no : false ≡ true = sym (ne_eqb x.commit commit apart) ∙ two.0 in cc) ] in
        let by : x.step ≡ step = elim (cases_eq x.step step) [ inl e ↦ e | inr apart ↦ absurd (let no : false ≡ true = sym (ne_eqb x.step step apart) ∙ two.1 in cc) ] in
        ap (λ n. removed commit step (inserted n (observed x) points)) at
        ∙ ap (λ n. removed commit step (inserted commit (record { step = n; value = x.value }) points)) by
        ∙ removed-inserted commit step x.value points

-- no more positions than before
pub few-removed : (commit step : ℕ) (points : List Position) → length (removed commit step points) ≤ length points
few-removed commit step [] = omega arith
few-removed commit step (p ∷ points) = grind (arith, common_steps, few-removed commit step points)

-- ---- within what may be placed

-- the first has room
pub room-first : (x : Coming) (coming : List Coming) (points : List Position) → MayBePlaced (x ∷ coming) points → WithinLimits points → HaveRoom points x.commit x.step x.value
room-first x coming points may within = record {
  may = may-come x coming points may.within within.rising;
  values = let all = count-placed (x ∷ coming) points in omega (arith, all, may.within.few_values);
  positions = λ none. let few = may.few (omega arith) in omega (arith, few);
}

-- so do those with one more, where there is room for it
module _ (commit step : ℕ) (value : ℤ) where
  abbrev x : Observation
  x = record { step = step; value = value }

  pub within-more : (points : List Position) → WithinLimits points → HaveRoom points commit step value → WithinLimits (inserted commit x points)
  within-more points within room = within-inserted commit step value points within room.may room.values (few-inserted commit x points within room.positions)

pub may-more : (coming : List Coming) (x : Coming) (points : List Position) → MayBePlaced coming points → HaveRoom (all_placed coming points) x.commit x.step x.value → length points + length coming + 1 < 16_384
    → MayBePlaced (coming ++ x ∷ []) points
may-more coming x points may room few = record {
  within = subst WithinLimits (sym (placed-push coming x points)) (within-more x.commit x.step x.value (all_placed coming points) may.within room);
  few = λ some. omega (arith, few, length_push coming x);
}

-- and those that are left where a step is taken away
pub may-fewer : (commit step : ℕ) (coming left : List Coming) (points : List Position) → MayBePlaced coming points → WithinLimits points
    → left ≡ filter (λ x. not (is_of_step commit step x)) coming → MayBePlaced left (removed commit step points)
may-fewer commit step coming left points may within is = record {
  within = subst WithinLimits (removed-all commit step coming points (to-rises 0 points within.rising (λ some. omega arith)) ∙ ap (λ xs. all_placed xs (removed commit step points)) (sym is))
      (within-removed commit step (all_placed coming points) may.within);
  few = λ some.
      let both = length-filter_both (λ x. not (is_of_step commit step x)) (λ x. not (not (is_of_step commit step x))) (λ x. refl) coming in
      let len = ap length is in
      let few = may.few (omega (arith, some, both, len)) in
      omega (arith, few, both, len, few-removed commit step points);
}
