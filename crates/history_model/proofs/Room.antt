-- What the limits on a history say of each of its series.
use Rattle.std.proofs.Common.{◌≡◌, ℕ, ◌+◌, ◌≤◌, ◌<◌, max, Bool, true, false, cond, not, ◌&&◌, ◌||◌, List, [], ◌∷◌, ◌++◌, length, map, refl, sym, ap, ◌∙◌, inl, inr, arith}
use Rattle.std.specs.{Prelude.{None, bytes_eq, filter, flat_map}, List.list_any, Cmp.Lexicographic.nat_list_eq_equiv}
use Rattle.std.proofs.lemmas.{Bool.cases_Bool, List.length-map, List.Folds.list_any-append, Grind.common_steps}
use Rattle.metric_table.specs.Limits.{most}
use Rattle.metric_table.specs.declared.limits.Limit.TheVariants as limit
use Rattle.segment_model.{specs.Segments.{Position, values_of}, specs.Edits.{inserted, has_commit}, proofs.Inserted.{values-brought, size-grows, size-new}}
use Rattle.history_model.specs.{declared.entries.Acceptance.Acceptance, declared.entries.Entry.Entry, declared.run.Run.Run, Allowed.{count_of, greatest_of}}
use Rattle.history_model.specs.declared.entries.Entry.TheVariants as entry
use Rattle.history_model.specs.{Laws.{observed, with_all}, Positions.{Brought, brought_by, brought, positions}}
use Rattle.history_model.specs.Runs.{Series, retracted, live_runs, same_series, is_of, distinct}
use Rattle.sample_model.specs.Samples.{Measurement}
use Rattle.history_model.proofs.{Accepts.positions-accept, Counts.all-more, Lists.same-bytes}

both : (a b : Bool) → (a && b) ≡ true → (a ≡ true) × (b ≡ true)
both a b h = grind (arith, common_steps)

neither : (a b : Bool) → (a || b) ≡ false → (a ≡ false) × (b ≡ false)
neither a b e = grind (arith, common_steps)

pub same-is : (s t : Series) → same_series s t ≡ true → s ≡ t
same-is s t same =
    let two = both (bytes_eq s.test t.test) (bytes_eq s.metric t.metric) same in
    ap (λ (n : List ℕ). let u : Series = record { test = n; metric = s.metric } in u) (same-bytes s.test t.test two.0)
    ∙ ap (λ (n : List ℕ). let u : Series = record { test = t.test; metric = n } in u) (same-bytes s.metric t.metric two.1)

-- a series that is listed has no more than the series that has most
greatest-has : (f : Series → ℕ) (s : Series) (ks : List Series) → list_any (same_series s) ks ≡ true → f s ≤ greatest_of (map f ks)
greatest-has f s [] some = absurd (let no : false ≡ true = some in cc)
greatest-has f s (k ∷ ks) some = elim (cases_Bool (same_series s k)) [
  | inl hit ↦ let same : f s ≡ f k = ap f (same-is s k hit) in above (f k) (greatest_of (map f ks)) (f s) (omega (arith, same))
  | inr miss ↦
      let rest = greatest-has f s ks (ap (λ b. b || list_any (same_series s) ks) (sym miss) ∙ some) in
      later (f k) (greatest_of (map f ks)) (f s) rest
]
  where
    above : (a b c : ℕ) → c ≤ a → c ≤ max a b
    above a b c le = grind (arith)

    later : (a b c : ℕ) → c ≤ b → c ≤ max a b
    later a b c le = grind (arith)

-- a series that isn't listed once isn't listed at all
others : (s x : Series) (ys : List Series) → same_series s x ≡ false → list_any (same_series s) (filter (λ y. not (same_series x y)) ys) ≡ list_any (same_series s) ys
others s x [] apart = refl
others s x (y ∷ ys) apart = elim (cases_Bool (same_series x y)) [
  | inl same ↦
      let miss : same_series s y ≡ false = ap (same_series s) (sym (same-is x y same)) ∙ apart in
      rw (same, miss) (others s x ys apart)
  | inr other ↦ rw other (ap (λ b. same_series s y || b) (others s x ys apart))
]

not-listed : (s : Series) (xs : List Series) → list_any (same_series s) (distinct same_series xs) ≡ false → list_any (same_series s) xs ≡ false
not-listed s [] none = refl
not-listed s (x ∷ xs) none =
    let two = neither (same_series s x) (list_any (same_series s) (filter (λ y. not (same_series x y)) (distinct same_series xs))) none in
    ap (λ b. b || list_any (same_series s) xs) two.0
    ∙ not-listed s xs (sym (others s x (distinct same_series xs) two.0) ∙ two.1)

-- then no run brought a sample of it
abbrev series_in : Acceptance → List Series
series_in a = map (λ (x : Measurement). let t : Series = record { test = x.test; metric = x.metric } in t) a.run.samples

none-in : (s : Series) (xs : List Measurement) → list_any (same_series s) (map (λ (x : Measurement). let t : Series = record { test = x.test; metric = x.metric } in t) xs) ≡ false → filter (is_of s) xs ≡ []
none-in s [] none = refl
none-in s (x ∷ xs) none =
    let two = neither (same_series s (record { test = x.test; metric = x.metric })) (list_any (same_series s) (map (λ (x : Measurement). let t : Series = record { test = x.test; metric = x.metric } in t) xs)) none in
    let turned : is_of s x ≡ same_series s (record { test = x.test; metric = x.metric }) =
    ap (λ b. b && bytes_eq x.metric s.metric) (nat_list_eq_equiv.symm x.test s.test) ∙ ap (λ b. bytes_eq s.test x.test && b) (nat_list_eq_equiv.symm x.metric s.metric) in
    ap (λ b. cond b (x ∷ filter (is_of s) xs) (filter (is_of s) xs)) (turned ∙ two.0) ∙ none-in s xs two.1

none-brought : (s : Series) (q : Acceptance → Bool) (runs : List Acceptance) → list_any (same_series s) (flat_map series_in runs) ≡ false → brought s (filter q runs) ≡ []
none-brought s q [] none = refl
none-brought s q (a ∷ runs) none =
    let two = neither (list_any (same_series s) (series_in a)) (list_any (same_series s) (flat_map series_in runs))
    (sym (list_any-append (same_series s) (series_in a) (flat_map series_in runs)) ∙ none) in
    let rest = none-brought s q runs two.1 in
    let mine : brought_by s a ≡ [] = ap (map (λ (x : Measurement). let y : Brought = record { commit = a.run.commit; step = a.step; value = x.value } in y)) (none-in s a.run.samples two.0) in
    elim (cases_Bool (q a)) [
      | inl kept ↦ rw kept (ap (λ ys. ys ++ brought s (filter q runs)) mine ∙ rest)
      | inr gone ↦ rw gone rest
    ]

-- the live samples of any series keep the limit
pub samples-kept : (h : List Entry) (s : Series) → count_of limit.SeriesSamples h ≤ most limit.SeriesSamples → length (brought s (live_runs h)) ≤ most limit.SeriesSamples
samples-kept h s keeps = grind (arith, common_steps, cases_Bool, greatest-has, length, none-brought, not-listed, series_in)

-- so do its positions
pub positions-kept : (h : List Entry) (s : Series) → count_of limit.Positions h ≤ most limit.Positions → length (positions h s) ≤ most limit.Positions
positions-kept h s keeps = grind (arith, common_steps, cases_Bool, greatest-has, length, none-brought, not-listed, series_in)

-- there is room for the samples of a run whose acceptance keeps the limits
pub room-for-samples : (h : List Entry) (run : Run) (s : Series) → count_of limit.SeriesSamples (h ++ entry.Accept run ∷ []) ≤ most limit.SeriesSamples → retracted run.run h ≡ None
    → length (values_of (positions h s)) + length (filter (is_of s) run.samples) ≤ most limit.SeriesSamples
room-for-samples h run s keeps live =
    let a : Acceptance = record { step = length h + 1; run = run } in
    let after : length (values_of (positions (h ++ entry.Accept run ∷ []) s)) ≡ length (values_of (with_all (brought_by s a) (positions h s))) =
    ap (λ ps. length (values_of ps)) (positions-accept h run s live) in
    let more = all-more (brought_by s a) (positions h s) in
    let count : length (brought_by s a) ≡ length (filter (is_of s) run.samples) = length-map (filter (is_of s) run.samples) (λ (x : Measurement). let y : Brought = record { commit = run.commit; step = length h + 1; value = x.value } in y) in
    let is = values-brought (brought s (live_runs (h ++ entry.Accept run ∷ []))) in
    let kept = samples-kept (h ++ entry.Accept run ∷ []) s keeps in
    omega (arith, after, more, count, is, kept)

-- ---- a new position

all-grow : (xs : List Brought) (points : List Position) → length points ≤ length (with_all xs points)
all-grow [] points = omega arith
all-grow (x ∷ xs) points = grind (arith, common_steps, size-grows, inserted, all-grow xs (inserted x.commit (observed x) points))

-- there is room for a new position, where the run brings a sample to a commit that has none
pub room-for-position : (h : List Entry) (run : Run) (s : Series) → count_of limit.Positions (h ++ entry.Accept run ∷ []) ≤ most limit.Positions → retracted run.run h ≡ None
    → 0 < length (filter (is_of s) run.samples) → has_commit run.commit (positions h s) ≡ false → length (positions h s) < most limit.Positions
room-for-position h run s keeps live some none =
    let a : Acceptance = record { step = length h + 1; run = run } in
    let after : length (positions (h ++ entry.Accept run ∷ []) s) ≡ length (with_all (brought_by s a) (positions h s)) = ap (λ ps. length ps) (positions-accept h run s live) in
    let kept = positions-kept (h ++ entry.Accept run ∷ []) s keeps in
    let more : length (positions h s) + 1 ≤ length (with_all (brought_by s a) (positions h s)) = go (filter (is_of s) run.samples) some in
    omega (arith, after, kept, more)
  where
    go : (xs : List Measurement) → 0 < length xs
        → length (positions h s) + 1 ≤ length (with_all (map (λ (x : Measurement). let y : Brought = record { commit = run.commit; step = length h + 1; value = x.value } in y) xs) (positions h s))
    go [] some = absurd (omega arith)
    go (x ∷ xs) some =
        let new = size-new run.commit (record { step = length h + 1; value = x.value }) (positions h s) none in
        let rest = all-grow (map (λ (x : Measurement). let y : Brought = record { commit = run.commit; step = length h + 1; value = x.value } in y) xs) (inserted run.commit (record { step = length h + 1; value = x.value }) (positions h s)) in
        omega (arith, new, rest)
