-- Values of different commits may be placed in any order.
use Rattle.std.proofs.{Common.{◌≡◌, ◌≢◌, ℕ, ◌<◌, Bool, true, false, cond, List, [], ◌∷◌, ◌++◌, refl, sym, ap, ◌∙◌, inl, inr, arith}, lemmas.Grind.common_steps}
use Rattle.std.{specs.Prelude.filter, proofs.lemmas.Bool.{cases_Bool, cases_order, cases_eq}, proofs.lemmas.List.Elements.filter-append}
use Rattle.segment_model.specs.{Segments.{Observation, Position}, Edits.{position_of, inserted}}
use Rattle.std.specs.{Ordering.{is_lt, nat_cmp}, List.Sorted.ties}
use Rattle.series_index.{specs.declared.coming.Coming.Coming, specs.Log.{observed, all_placed}, proofs.Placing.{put-below, put-above}}

less-first : (a b : ℕ) (x y : Observation) (points : List Position) → a < b → inserted a x (inserted b y points) ≡ inserted b y (inserted a x points)
less-first a b x y [] lt = put-below a x (position_of b y) [] lt ∙ sym (put-above b y (position_of a x) [] lt)
less-first a b x y (p ∷ points) lt = grind (arith, common_steps, less-first a b x y points lt)

either-first : (a b : ℕ) (x y : Observation) (points : List Position) → a ≢ b → inserted a x (inserted b y points) ≡ inserted b y (inserted a x points)
either-first a b x y points apart = grind (arith, common_steps, cases_order, less-first)

-- none is of the commit
abbrev AreApart : ℕ → List Coming → Type 0
AreApart commit [] = Unit {0}
AreApart commit (x ∷ coming) = (x.commit ≢ commit) × AreApart commit coming

-- a value may come before those of other commits
drawn : (front back : List Coming) (x : Coming) (points : List Position) → AreApart x.commit front → all_placed (front ++ x ∷ back) points ≡ all_placed (front ++ back) (inserted x.commit (observed x) points)
drawn [] back x points apart = refl
drawn (f ∷ front) back x points apart =
    drawn front back x (inserted f.commit (observed f) points) apart.1
    ∙ ap (all_placed (front ++ back)) (either-first x.commit f.commit (observed x) (observed f) points (λ e. apart.0 (sym e)))

-- a value with what stands before it, all of other commits, and behind it
record Drawn (x : Coming) (coming : List Coming) : Type 0 where
  front : List Coming
  back : List Coming
  is : coming ≡ front ++ x ∷ back
  apart : AreApart x.commit front

module _ (ties : Coming → Coming → Bool) (tie : (x y : Coming) → x.commit ≡ y.commit → ties x y ≡ true) (none : (x y : Coming) → x.commit ≢ y.commit → ties x y ≡ false) where
  draw : (x : Coming) (coming rest : List Coming) → filter (ties x) coming ≡ x ∷ rest → Drawn x coming
  draw x [] rest e = absurd (cc)
  draw x (y ∷ coming) rest e = elim (cases_Bool (ties x y)) [
    | inl hit ↦
        let same : y ≡ x = cc in
        record { front = []; back = coming; is = ap (λ z. z ∷ coming) same; apart = tt }
    | inr miss ↦
        let later : filter (ties x) coming ≡ x ∷ rest = sym (ap (λ b. cond b (y ∷ filter (ties x) coming) (filter (ties x) coming)) miss) ∙ e in
        let found : Drawn x coming = draw x coming rest later in
        record {
          front = y ∷ found.front;
          back = found.back;
          is = ap (λ ys. y ∷ ys) found.is;
          apart = ((λ same. absurd (let no : true ≡ false = sym (tie x y (sym same)) ∙ miss in cc)), found.apart);
        }
  ]

  none-of : (z : Coming) (commit : ℕ) (front : List Coming) → z.commit ≡ commit → AreApart commit front → filter (ties z) front ≡ []
  none-of z commit [] at apart = refl
  none-of z commit (f ∷ front) at apart = grind (arith, common_steps, none-of z commit front at apart.1)

  pub placed-stable : (xs ys : List Coming) (points : List Position) → ((z : Coming) → filter (ties z) ys ≡ filter (ties z) xs) → all_placed ys points ≡ all_placed xs points
  placed-stable [] [] points stable = refl
  placed-stable [] (y ∷ ys) points stable =
      absurd (let e : y ∷ filter (ties y) ys ≡ [] = sym (ap (λ b. cond b (y ∷ filter (ties y) ys) (filter (ties y) ys)) (tie y y refl)) ∙ stable y in cc)
  placed-stable (x ∷ xs) ys points stable =
      let own : filter (ties x) ys ≡ x ∷ filter (ties x) xs = stable x ∙ ap (λ b. cond b (x ∷ filter (ties x) xs) (filter (ties x) xs)) (tie x x refl) in
      let d : Drawn x ys = draw x ys (filter (ties x) xs) own in
      let rest : (z : Coming) → filter (ties z) (d.front ++ d.back) ≡ filter (ties z) xs = λ z.
      let parted : filter (ties z) d.front ++ cond (ties z x) (x ∷ filter (ties z) d.back) (filter (ties z) d.back) ≡ cond (ties z x) (x ∷ filter (ties z) xs) (filter (ties z) xs) =
      sym (ap (filter (ties z)) d.is ∙ filter-append (ties z) d.front (x ∷ d.back)) ∙ stable z in
      filter-append (ties z) d.front d.back ∙ left z d.front (filter (ties z) d.back) (filter (ties z) xs) d.apart parted in
      ap (λ zs. all_placed zs points) d.is ∙ drawn d.front d.back x points d.apart
      ∙ placed-stable xs (d.front ++ d.back) (inserted x.commit (observed x) points) rest
    where
      left : (z : Coming) (front back more : List Coming) → AreApart x.commit front → filter (ties z) front ++ cond (ties z x) (x ∷ back) back ≡ cond (ties z x) (x ∷ more) more → filter (ties z) front ++ back ≡ more
      left z front back more apart e = elim (cases_eq z.commit x.commit) [
        | inl same ↦
            let gone : filter (ties z) front ≡ [] = none-of z x.commit front same apart in
            let one : x ∷ back ≡ x ∷ more = grind (arith, common_steps) in
            let tails : back ≡ more = cc in
            ap (λ zs. zs ++ back) gone ∙ tails
        | inr other ↦
            ap (λ b. filter (ties z) front ++ cond b (x ∷ back) back) (sym (none z x other)) ∙ e ∙ ap (λ b. cond b (x ∷ more) more) (none z x other)
      ]

-- ---- in order of their commits
abbrev pub comes_before : Coming → Coming → Bool
comes_before x y = is_lt (nat_cmp x.commit y.commit)

tie-same : (x y : Coming) → x.commit ≡ y.commit → ties comes_before x y ≡ true
tie-same x y same = grind (arith, common_steps)

none-tie : (x y : Coming) → x.commit ≢ y.commit → ties comes_before x y ≡ false
none-tie x y apart = grind (arith, common_steps)

-- a stable sort by commit leaves what is placed as it is
pub placed-sorted : (xs ys : List Coming) → ((z : Coming) → filter (ties comes_before z) ys ≡ filter (ties comes_before z) xs) → (points : List Position) → all_placed ys points ≡ all_placed xs points
placed-sorted xs ys stable points = placed-stable (ties comes_before) tie-same none-tie xs ys points stable
