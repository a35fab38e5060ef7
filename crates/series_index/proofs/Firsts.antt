-- The samples of a run, one more: which make a series known, and how many a series has.
use Rattle.std.proofs.Common.{◌≡◌, ℕ, ◌+◌, ◌<◌, ◌≤◌, Bool, true, false, cond, not, ◌&&◌, ◌||◌, List, [], ◌∷◌, ◌++◌, length, map, take, get_or, sym, ap, subst, ◌∙◌, Option, is_some, All, ℤ, FitsSigned, w64, arith, inl, inr}
use Rattle.std.{specs.Prelude.{filter, bytes_eq, is_none}, specs.List.list_any, proofs.lemmas.Bool.cases_Bool, proofs.lemmas.Grind.common_steps}
use Rattle.std.proofs.lemmas.{List.{take_more, append-nil, length-append, map-append}, List.Elements.filter-append, Slice.Eq.bytes_eq-Decides}
use Rattle.segment_model.{specs.Segments.values_of, specs.Limits.IsSmall, proofs.Inserted.count-inserted}
use Rattle.history_model.{specs.Laws.SeriesAreListedOnce, specs.Runs.{Series, is_of, measured, distinct, same_series}, proofs.Lists.{or-true, any-map}}
use Rattle.sample_model.specs.Samples.{Measurement}
use Rattle.series_index.specs.{declared.tracked.Tracked.Tracked, Seen.{seen, is_series, with_sample, HasRoom}, Taken.{of_series, with_samples, HasRoomFor}}
use Rattle.series_index.{specs.Demands.{Kept, is_new, new_ones}, proofs.Runs.{filter-next, count-next, series-is, taken-next, room-fewer}}
use Rattle.series_index.proofs.Undo.{room-after, room-next}

pub own : (x : Measurement) → is_of (measured x) x ≡ true
own x = grind (arith, common_steps, bytes_eq, bytes_eq-Decides)

pub one-of : (s : Series) (x : Measurement) → is_of s x ≡ true → measured x ≡ s
one-of s x is = grind (arith, common_steps, bytes_eq, bytes_eq-Decides)

-- what holds of the series of the samples so far, and of the next one's, holds with it
pub so-far : (P : Series → Type 0) (samples : List Measurement) (i : ℕ) (x : Measurement) → i < length samples → x ≡ get_or samples i x
    → ((s : Series) → 0 < length (of_series s (take i samples)) → P s) → P (measured x) → (s : Series) → 0 < length (of_series s (take (i + 1) samples)) → P s
so-far P samples i x lt is before here s some = grind (arith, common_steps, cases_Bool, is_of, one-of, take, filter-next, cond, append-nil, length)

-- the series of a sample has one
pub has-own : (samples : List Measurement) (i : ℕ) (x : Measurement) → i < length samples → x ≡ get_or samples i x → 0 < length (of_series (measured x) samples)
has-own samples i x lt is = let few = count-next (is_of (measured x)) samples i x lt is (own x) in omega (arith, few)

-- ---- the tally
pub count-with : (commit step : ℕ) (xs : List Measurement) (t : Tracked) → length (values_of (with_samples commit step xs t).points) ≡ length (values_of t.points) + length xs
count-with commit step [] t = omega arith
count-with commit step (x ∷ xs) t =
    let rest = count-with commit step xs (with_sample commit (record { step = step; value = x.value }) t) in
    let one = count-inserted commit (record { step = step; value = x.value }) t.points in
    omega (arith, rest, one)

pub or-false : (b : Bool) → (b || false) ≡ b
or-false b = grind (arith, common_steps)

pub known-with : (commit step : ℕ) (s : Series) (xs : List Measurement) (t : Tracked)
    → is_some (with_samples commit step (of_series s xs) t).since ≡ (is_some t.since || list_any (is_of s) xs)
known-with commit step s [] t = sym (or-false (is_some t.since))
known-with commit step s (x ∷ xs) t = elim (cases_Bool (is_of s x)) [
  | inl hit ↦ rw hit (known-with commit step s xs (with_sample commit (record { step = step; value = x.value }) t) ∙ sym (or-true (is_some t.since)))
  | inr miss ↦ rw miss (known-with commit step s xs t)
]

-- ---- new series
one-or-none : (p : Series → Bool) (there : Bool) (s : Series) → length (filter p (cond there [] (s ∷ []))) ≡ cond (p s && not there) 1 0
one-or-none p there s = grind (arith, common_steps)

pub new-next : SeriesAreListedOnce → (index : Kept) (samples : List Measurement) (i : ℕ) (x : Measurement) → i < length samples → x ≡ get_or samples i x
    → length (new_ones index (take (i + 1) samples)) ≡ length (new_ones index (take i samples)) + cond (is_new index (measured x) && not (list_any (is_of (measured x)) (take i samples))) 1 0
new-next law index samples i x lt is =
    let before : List Series = map measured (take i samples) in
    let more : take (i + 1) samples ≡ take i samples ++ x ∷ [] = take_more samples i x lt ∙ ap (λ y. take i samples ++ y ∷ []) (sym is) in
    let there : Bool = list_any (λ y. same_series y (measured x)) before in
    ap (λ zs. length (new_ones index zs)) more
    ∙ ap (λ zs. length (filter (is_new index) (distinct same_series zs))) (map-append measured (take i samples) (x ∷ []))
    ∙ ap (λ zs. length (filter (is_new index) zs)) (law before (measured x))
    ∙ ap length (filter-append (is_new index) (distinct same_series before) (cond there [] (measured x ∷ [])))
    ∙ length-append (filter (is_new index) (distinct same_series before)) (filter (is_new index) (cond there [] (measured x ∷ [])))
    ∙ ap (λ n. length (filter (is_new index) (distinct same_series before)) + n) (one-or-none (is_new index) there (measured x))
    ∙ ap (λ b. length (filter (is_new index) (distinct same_series before)) + cond (is_new index (measured x) && not b) 1 0) (any-map (λ y. same_series y (measured x)) measured (take i samples))

pub none-is : (o : Option ℕ) → not (is_some o) ≡ is_none o
none-is o = grind (arith, common_steps)

pub one-at-most : (b : Bool) → cond b 1 0 ≤ 1
one-at-most b = grind (arith, common_steps)

pub filter-few : {A : Type 0} (p : A → Bool) (xs : List A) → length (filter p xs) ≤ length xs
filter-few p [] = omega arith
filter-few p (x ∷ xs) = let rest = filter-few p xs in elim (p x) as (λ b. length (cond b (x ∷ filter p xs) (filter p xs)) ≤ length (x ∷ xs)) [ true ↦ omega (arith, rest) | false ↦ omega (arith, rest) ]

-- ---- the next sample of a run
pub small-fits : (v : ℤ) → IsSmall v → FitsSigned w64 v
small-fits v small = grind (arith, common_steps)

module _ (kept : Kept) (commit step : ℕ) (samples : List Measurement) (i : ℕ) (x y : Measurement) (lt : i < length samples) (is : x ≡ get_or samples i x) (inside : y ≡ x)
    (all_small : All (λ (z : Measurement). IsSmall z.value) samples) where
  next-small : IsSmall x.value
  next-small = let P : Measurement → Type 0 = λ z. IsSmall z.value in subst P (sym is) (all_small i x lt)

  pub next-fits : FitsSigned w64 y.value
  next-fits = small-fits y.value (let P : Measurement → Type 0 = λ z. IsSmall z.value in subst P (sym inside) next-small)

  -- there is room for it where the samples before it were taken in
  pub next-room : (t : Tracked) → HasRoomFor t commit step (length (of_series (measured x) samples)) → seen (measured x) kept ≡ with_samples commit step (of_series (measured x) (take i samples)) t
      → HasRoom (seen (measured y) kept) commit step y.value
  next-room t room are =
      let xs : List Measurement = of_series (measured x) (take i samples) in
      let few = count-next (is_of (measured x)) samples i x lt is (own x) in
      let enough = room-fewer t commit step (1 + length xs) (length (of_series (measured x) samples)) (omega (arith, few)) room in
      let next = room-next (with_samples commit step xs t) commit step 0 x.value next-small (room-after t commit step 1 xs enough) in
      let P : Tracked → Type 0 = λ u. HasRoom u commit step x.value in
      let Q : Measurement → Type 0 = λ z. HasRoom (seen (measured z) kept) commit step z.value in
      subst Q (sym inside) (subst P (sym are) next)

  -- with it
  pub next-taken : (s : Series) (t after : Tracked) → after ≡ cond (is_series y.test y.metric s) (with_sample commit (record { step = step; value = y.value }) (seen s kept)) (seen s kept)
      → seen s kept ≡ with_samples commit step (of_series s (take i samples)) t → after ≡ with_samples commit step (of_series s (take (i + 1) samples)) t
  next-taken s t after put are =
      put
      ∙ ap (λ (z : Measurement). cond (is_series z.test z.metric s) (with_sample commit (record { step = step; value = z.value }) (seen s kept)) (seen s kept)) inside
      ∙ ap (λ b. cond b (with_sample commit (record { step = step; value = x.value }) (seen s kept)) (seen s kept)) (series-is s x)
      ∙ ap (λ (u : Tracked). cond (is_of s x) (with_sample commit (record { step = step; value = x.value }) u) u) are
      ∙ taken-next commit step s samples i x t lt is
