-- The set of the series whose tables are home.
use Rattle.std.proofs.Common.{◌≡◌, ℕ, Bool, true, false, cond, ◌&&◌, ◌||◌, List, [], ◌∷◌, refl, sym, ap, ap₂, ◌∙◌, Option, Some, None, inl, inr, true≢false}
use Rattle.std.{specs.Prelude.{is_some, unwrap_or, not, bytes_eq}, proofs.lemmas.Map.Text.is_eq-slice_cmp, proofs.lemmas.Slice.Eq.bytes_eq-Decides}
use Rattle.pelt_core.specs.Seen.{Tabled}
use Rattle.std.specs.declared.cmp.Ordering.{Ordering, TheVariants.{Less, Equal, Greater}}
use Rattle.std.specs.{Ordering.{nat_cmp, is_eq, ordering_then, eq_by_cmp}, Cmp.Lexicographic.slice_cmp, Cmp.IsTotalOrder, List.list_any, Map.lookup}
use Rattle.std.specs.FinSet as set
use Rattle.std.proofs.lemmas.{Bool.cases_Bool, List.Folds.list_any-append, Cmp.{then_total, on_total, nat_list_cmp_total}}
use Rattle.history_model.specs.{Runs.{Series, same_series}, SeriesOrder.series_cmp}
use Rattle.publication_index.specs.{declared.held.Held.Held, Kept.{is_same, held_of, table_in, home}, Homes.{of_test, held_series, homes}}

pub series-total : IsTotalOrder series_cmp
series-total = then_total (on_total (λ (s : Series). s.test) nat_list_cmp_total) (on_total (λ (s : Series). s.metric) nat_list_cmp_total)

-- ---- only equal series tie
then-equal : (a b : Ordering) → ordering_then a b ≡ Equal → (a ≡ Equal) × (b ≡ Equal)
then-equal Less b is = absurd (let no : Less ≡ Equal = is in cc)
then-equal Equal b is = (refl, is)
then-equal Greater b is = absurd (let no : Greater ≡ Equal = is in cc)

pub series-once : set.IsAntisymmetric series_cmp
series-once x y is =
    let both = then-equal (slice_cmp nat_cmp x.test y.test) (slice_cmp nat_cmp x.metric y.metric) is in
    let once : set.IsAntisymmetric (slice_cmp nat_cmp) = set.slice_cmp-IsAntisymmetric set.nat_cmp-IsAntisymmetric in
    ap₂ (λ (t m : List ℕ). let s : Series = record { test = t; metric = m } in s) (once x.test y.test both.0) (once x.metric y.metric both.1)

then-eq : (a b : Ordering) → is_eq (ordering_then a b) ≡ (is_eq a && is_eq b)
then-eq Less b = refl
then-eq Equal b = refl
then-eq Greater b = refl

-- series tie where their names are the same
pub tied : (one other : Series) → eq_by_cmp series_cmp one other ≡ (is_same one.test other.test && is_same one.metric other.metric)
tied one other = then-eq (slice_cmp nat_cmp one.test other.test) (slice_cmp nat_cmp one.metric other.metric)

-- ---- what is home is held
metric-there : (s : Series) (test : List ℕ) (es : List (List ℕ × Held)) → is_same s.test test ≡ true → is_some (table_in (held_of s.metric es)) ≡ true
    → list_any (eq_by_cmp series_cmp s) (of_test (test, es)) ≡ true
metric-there s test [] same is = absurd (true≢false (sym is))
metric-there s test (e ∷ es) same is = elim (cases_Bool (is_same s.metric e.0)) [
  | inl hit ↦
      let here : eq_by_cmp series_cmp s (record { test = test; metric = e.0 }) ≡ true = tied s (record { test = test; metric = e.0 }) ∙ ap₂ (λ a b. a && b) same hit in
      ap (λ b. b || list_any (eq_by_cmp series_cmp s) (of_test (test, es))) here
  | inr miss ↦
      let rest : is_some (table_in (held_of s.metric es)) ≡ true = ap (λ b. is_some (table_in (cond b (Some e.1) (held_of s.metric es)))) (sym miss) ∙ is in
      let here : eq_by_cmp series_cmp s (record { test = test; metric = e.0 }) ≡ false = tied s (record { test = test; metric = e.0 }) ∙ ap₂ (λ a b. a && b) same miss in
      ap (λ b. b || list_any (eq_by_cmp series_cmp s) (of_test (test, es))) here ∙ metric-there s test es same rest
]

or-true : (a b : Bool) → b ≡ true → (a || b) ≡ true
or-true true b is = refl
or-true false b is = is

test-there : (s : Series) (tests : List (List ℕ × List (List ℕ × Held))) → is_some (home s tests) ≡ true → list_any (eq_by_cmp series_cmp s) (held_series tests) ≡ true
test-there s [] is = absurd (true≢false (sym is))
test-there s (t ∷ tests) is =
    list_any-append (eq_by_cmp series_cmp s) (of_test t) (held_series tests) ∙ elim (cases_Bool (is_same s.test t.0)) [
      | inl hit ↦
          let found : is_some (table_in (held_of s.metric t.1)) ≡ true =
          ap (λ b. is_some (table_in (held_of s.metric (unwrap_or (cond b (Some t.1) (lookup (λ (n : List ℕ). is_same s.test n) tests)) [])))) (sym hit) ∙ is in
          ap (λ b. b || list_any (eq_by_cmp series_cmp s) (held_series tests)) (metric-there s t.0 t.1 hit found)
      | inr miss ↦
          let found : is_some (home s tests) ≡ true =
          ap (λ b. is_some (table_in (held_of s.metric (unwrap_or (cond b (Some t.1) (lookup (λ (n : List ℕ). is_same s.test n) tests)) [])))) (sym miss) ∙ is in
          or-true (list_any (eq_by_cmp series_cmp s) (of_test t)) (list_any (eq_by_cmp series_cmp s) (held_series tests)) (test-there s tests found)
    ]

both : (a b : Bool) → (b ≡ true → a ≡ true) → (a && b) ≡ b
both true b is = refl
both false false is = refl
both false true is = is refl

-- a series is in the set exactly where its table is home
pub contains-homes : (tests : List (List ℕ × List (List ℕ × Held))) (s : Series) → set.contains (homes tests) s ≡ is_some (home s tests)
contains-homes tests s =
    set.contains-retain (set.from_list (held_series tests)) (λ (u : Series). is_some (home u tests)) s (λ x e. ap (λ (u : Series). is_some (home u tests)) (sym (series-once s x e)))
    ∙ ap (λ b. b && is_some (home s tests)) (set.contains-from_list series-total (held_series tests) s)
    ∙ both (list_any (eq_by_cmp series_cmp s) (held_series tests)) (is_some (home s tests)) (test-there s tests)

-- ---- the set after a write
pub same-homes : (before after : List (List ℕ × List (List ℕ × Held))) → ((s : Series) → home s after ≡ home s before) → homes after ≡ homes before
same-homes before after are =
    set.same_set series-total series-once (homes after) (homes before) (λ s. contains-homes after s ∙ ap is_some (are s) ∙ sym (contains-homes before s))

-- names by their bytes, either way
eq-swap : (one other : List ℕ) → bytes_eq one other ≡ bytes_eq other one
eq-swap one other = elim (cases_Bool (bytes_eq one other)) [
  | inl hit ↦ hit ∙ sym ((bytes_eq-Decides other one).1 (sym ((bytes_eq-Decides one other).0 hit)))
  | inr miss ↦ elim (cases_Bool (bytes_eq other one)) [
    | inl hit ↦ absurd (true≢false (sym ((bytes_eq-Decides one other).1 (sym ((bytes_eq-Decides other one).0 hit))) ∙ miss))
    | inr none ↦ miss ∙ sym none
  ]
]

tied-is : (s x : Series) → eq_by_cmp series_cmp s x ≡ same_series x s
tied-is s x =
    tied s x
    ∙ ap₂ (λ a b. a && b) (is_eq-slice_cmp s.test x.test ∙ eq-swap s.test x.test) (is_eq-slice_cmp s.metric x.metric ∙ eq-swap s.metric x.metric)

put-if : (a : Bool) (t : Tabled) (o : Option Tabled) → is_some (cond a (Some t) o) ≡ (a || is_some o)
put-if true t o = refl
put-if false t o = refl

take-if : (a : Bool) (o : Option Tabled) → is_some (cond a None o) ≡ (not a && is_some o)
take-if true o = refl
take-if false o = refl

-- a table more
pub homes-with : (before after : List (List ℕ × List (List ℕ × Held))) (x : Series) (t : Tabled) → ((s : Series) → home s after ≡ cond (same_series x s) (Some t) (home s before))
    → homes after ≡ set.insert (homes before) x
homes-with before after x t are = set.same_set series-total series-once (homes after) (set.insert (homes before) x) (λ s.
    contains-homes after s
    ∙ ap is_some (are s)
    ∙ put-if (same_series x s) t (home s before)
    ∙ ap₂ (λ a b. a || b) (sym (tied-is s x)) (sym (contains-homes before s))
    ∙ sym (set.contains-insert series-total (homes before) x s))

-- one less
pub homes-without : (before after : List (List ℕ × List (List ℕ × Held))) (x : Series) → ((s : Series) → home s after ≡ cond (same_series x s) None (home s before))
    → homes after ≡ set.remove (homes before) x
homes-without before after x are = set.same_set series-total series-once (homes after) (set.remove (homes before) x) (λ s.
    contains-homes after s
    ∙ ap is_some (are s)
    ∙ take-if (same_series x s) (home s before)
    ∙ ap₂ (λ a b. not a && b) (sym (tied-is s x)) (sym (contains-homes before s))
    ∙ sym (set.contains-remove series-total (homes before) x s))

-- of nothing nothing is home
pub homes-none : homes [] ≡ set.empty
homes-none = set.same_set series-total series-once (homes []) set.empty (λ s. contains-homes [] s ∙ sym (set.contains-empty series_cmp s))
