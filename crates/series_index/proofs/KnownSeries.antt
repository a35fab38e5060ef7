-- The known series of an index, listed in order.
use Rattle.std.proofs.Common.{◌≡◌, ◌⊎◌, inl, inr, ℕ, Bool, true, false, true≢false, cond, List, [], ◌∷◌, Less, nat_cmp, refl, sym, ap, subst, ◌∙◌, Option, Some, ◌↔◌, arith}
use Rattle.std.specs.{Prelude.{Contains, is_some, unwrap_or}, Ordering.{is_eq, ordering_then, ordering_reverse}, Cmp.Lexicographic.slice_cmp}
use Rattle.std.{specs.List.AllByRecursion, specs.List.Sorted.IsStrictlySortedBy, specs.Map.{keys_of, lookup}, proofs.lemmas.Bool.cases_Bool}
use Rattle.std.proofs.lemmas.{Cmp.{nat_list_cmp_total, tied_itself}, List.Elements.{Contains-append_left, Contains-append_right, Contains-append_cases}}
use Rattle.std.proofs.lemmas.{Map.Keys.sorted_tail, Grind.common_steps}
use Rattle.history_model.specs.{Runs.Series, SeriesOrder.series_cmp}
use Rattle.history_model.proofs.Members.{here, behind, none-in-nil, later, sorted-nil, sorted-cons, sorted-append}
use Rattle.series_index.specs.{declared.tracked.Tracked.Tracked, Known.AreKnown, Listed.{put_if, known_of, all_known, metrics_at, at_place, in_places}}
use Rattle.series_index.{specs.Seen.{is_same, seen, seen_of, unseen}, proofs.Written.same-name, proofs.ByPlace.turned}

abbrev Metrics : Type 0
Metrics = List (List ℕ × Tracked)

abbrev Tests : Type 0
Tests = List (List ℕ × Metrics)

-- the metrics of a test are in order
abbrev pub HasSorted : List ℕ × Metrics → Type 0
HasSorted t = IsStrictlySortedBy (slice_cmp nat_cmp) (keys_of t.1)

-- ---- one more series, where it is known
in-put : (b : Bool) (x s : Series) (xs : List Series) → Contains (put_if b x xs) s → ((b ≡ true) × (x ≡ s)) ⊎ Contains xs s
in-put b x s xs has = grind (arith, common_steps)

put-here : (b : Bool) (x : Series) (xs : List Series) → b ≡ true → Contains (put_if b x xs) x
put-here b x xs known = grind (arith, common_steps)

put-behind : (b : Bool) (x s : Series) (xs : List Series) → Contains xs s → Contains (put_if b x xs) s
put-behind true x s xs has = behind s x xs has
put-behind false x s xs has = has

put-sorted : (b : Bool) (x : Series) (xs : List Series) → ((s : Series) → Contains xs s → series_cmp x s ≡ Less) → IsStrictlySortedBy series_cmp xs → IsStrictlySortedBy series_cmp (put_if b x xs)
put-sorted b x xs below up = grind (arith, common_steps, sorted-cons)

-- ---- those of one test
test-of : (test : List ℕ) (es : Metrics) (s : Series) → Contains (known_of test es) s → s.test ≡ test
test-of test [] s has = absurd (none-in-nil s has)
test-of test (e ∷ es) s has = elim (in-put (is_some e.1.since) (record { test = test; metric = e.0 }) s (known_of test es) has) [
  | inl this ↦ ap (λ (x : Series). x.test) (sym this.1)
  | inr more ↦ test-of test es s more
]

metric-in : (test : List ℕ) (es : Metrics) (s : Series) → Contains (known_of test es) s → Contains (keys_of es) s.metric
metric-in test [] s has = absurd (none-in-nil s has)
metric-in test (e ∷ es) s has = elim (in-put (is_some e.1.since) (record { test = test; metric = e.0 }) s (known_of test es) has) [
  | inl this ↦ subst (λ (m : List ℕ). Contains (e.0 ∷ keys_of es) m) (ap (λ (x : Series). x.metric) this.1) (here e.0 (keys_of es))
  | inr more ↦ behind s.metric e.0 (keys_of es) (metric-in test es s more)
]

one-sorted : (test : List ℕ) (es : Metrics) → IsStrictlySortedBy (slice_cmp nat_cmp) (keys_of es) → IsStrictlySortedBy series_cmp (known_of test es)
one-sorted test [] up = sorted-nil series_cmp
one-sorted test (e ∷ es) up =
    put-sorted (is_some e.1.since) (record { test = test; metric = e.0 }) (known_of test es)
    (λ s has.
    ap (λ o. ordering_then o (slice_cmp nat_cmp e.0 s.metric)) (ap (λ (t : List ℕ). slice_cmp nat_cmp test t) (test-of test es s has) ∙ tied_itself nat_list_cmp_total test)
    ∙ later (slice_cmp nat_cmp) e.0 (keys_of es) s.metric up (metric-in test es s has))
    (one-sorted test es (sorted_tail (slice_cmp nat_cmp) e.0 (keys_of es) up))

-- ---- which name a look-up finds
same-itself : (name other : List ℕ) → name ≡ other → is_same name other ≡ true
same-itself name other same = ap (λ (n : List ℕ). is_same n other) same ∙ ap is_eq (tied_itself nat_list_cmp_total other)

not-below : (name other : List ℕ) → slice_cmp nat_cmp other name ≡ Less → is_same name other ≡ false
not-below name other below = ap is_eq (nat_list_cmp_total.antisymm name other ∙ ap ordering_reverse below)

abbrev since_of : List ℕ → Metrics → Bool
since_of metric es = is_some (seen_of metric es).since

into-one : (test : List ℕ) (es : Metrics) (metric : List ℕ) → since_of metric es ≡ true → Contains (known_of test es) (record { test = test; metric = metric })
into-one test [] metric known = absurd (true≢false (sym known))
into-one test (e ∷ es) metric known =
    let rest : Option Tracked = lookup (λ (m : List ℕ). is_same metric m) es in
    elim (cases_Bool (is_same metric e.0)) [
      | inl hit ↦
          let this : is_some e.1.since ≡ true = sym (ap (λ b. is_some (unwrap_or (cond b (Some e.1) rest) unseen).since) hit) ∙ known in
          subst (λ (m : List ℕ). Contains (known_of test (e ∷ es)) (record { test = test; metric = m })) (sym (same-name metric e.0 hit))
          (put-here (is_some e.1.since) (record { test = test; metric = e.0 }) (known_of test es) this)
      | inr miss ↦
          put-behind (is_some e.1.since) (record { test = test; metric = e.0 }) (record { test = test; metric = metric }) (known_of test es)
          (into-one test es metric (sym (ap (λ b. is_some (unwrap_or (cond b (Some e.1) rest) unseen).since) miss) ∙ known))
    ]

from-one : (test : List ℕ) (es : Metrics) (s : Series) → IsStrictlySortedBy (slice_cmp nat_cmp) (keys_of es) → Contains (known_of test es) s → since_of s.metric es ≡ true
from-one test [] s up has = absurd (none-in-nil s has)
from-one test (e ∷ es) s up has =
    let rest : Option Tracked = lookup (λ (m : List ℕ). is_same s.metric m) es in
    elim (in-put (is_some e.1.since) (record { test = test; metric = e.0 }) s (known_of test es) has) [
      | inl this ↦
          ap (λ b. is_some (unwrap_or (cond b (Some e.1) rest) unseen).since) (same-itself s.metric e.0 (ap (λ (x : Series). x.metric) (sym this.1))) ∙ this.0
      | inr more ↦
          ap (λ b. is_some (unwrap_or (cond b (Some e.1) rest) unseen).since)
          (not-below s.metric e.0 (later (slice_cmp nat_cmp) e.0 (keys_of es) s.metric up (metric-in test es s more)))
          ∙ from-one test es s (sorted_tail (slice_cmp nat_cmp) e.0 (keys_of es) up) more
    ]

-- ---- those of all tests
test-in : (ts : Tests) (s : Series) → Contains (all_known ts) s → Contains (keys_of ts) s.test
test-in [] s has = absurd (none-in-nil s has)
test-in (t ∷ ts) s has = elim (Contains-append_cases (known_of t.0 t.1) (all_known ts) s has) [
  | inl near ↦ subst (λ (n : List ℕ). Contains (t.0 ∷ keys_of ts) n) (sym (test-of t.0 t.1 s near)) (here t.0 (keys_of ts))
  | inr far ↦ behind s.test t.0 (keys_of ts) (test-in ts s far)
]

all-sorted : (ts : Tests) → IsStrictlySortedBy (slice_cmp nat_cmp) (keys_of ts) → AllByRecursion HasSorted ts → IsStrictlySortedBy series_cmp (all_known ts)
all-sorted [] up each = sorted-nil series_cmp
all-sorted (t ∷ ts) up each =
    sorted-append series_cmp (known_of t.0 t.1) (all_known ts) (one-sorted t.0 t.1 each.0)
    (all-sorted ts (sorted_tail (slice_cmp nat_cmp) t.0 (keys_of ts) up) each.1)
    (λ x y near far.
    ap (λ o. ordering_then o (slice_cmp nat_cmp x.metric y.metric))
    (ap (λ (n : List ℕ). slice_cmp nat_cmp n y.test) (test-of t.0 t.1 x near) ∙ later (slice_cmp nat_cmp) t.0 (keys_of ts) y.test up (test-in ts y far)))

into-all : (ts : Tests) (s : Series) → is_some (seen s ts).since ≡ true → Contains (all_known ts) s
into-all [] s known = absurd (true≢false (sym known))
into-all (t ∷ ts) s known =
    let rest : Option Metrics = lookup (λ (n : List ℕ). is_same s.test n) ts in
    elim (cases_Bool (is_same s.test t.0)) [
      | inl hit ↦
          let this = into-one t.0 t.1 s.metric (sym (ap (λ b. since_of s.metric (unwrap_or (cond b (Some t.1) rest) [])) hit) ∙ known) in
          Contains-append_left (known_of t.0 t.1) (all_known ts) s
          (subst (λ (n : List ℕ). Contains (known_of t.0 t.1) (record { test = n; metric = s.metric })) (sym (same-name s.test t.0 hit)) this)
      | inr miss ↦
          Contains-append_right (known_of t.0 t.1) (all_known ts) s
          (into-all ts s (sym (ap (λ b. since_of s.metric (unwrap_or (cond b (Some t.1) rest) [])) miss) ∙ known))
    ]

from-all : (ts : Tests) (s : Series) → IsStrictlySortedBy (slice_cmp nat_cmp) (keys_of ts) → AllByRecursion HasSorted ts → Contains (all_known ts) s → is_some (seen s ts).since ≡ true
from-all [] s up each has = absurd (none-in-nil s has)
from-all (t ∷ ts) s up each has =
    let rest : Option Metrics = lookup (λ (n : List ℕ). is_same s.test n) ts in
    elim (Contains-append_cases (known_of t.0 t.1) (all_known ts) s has) [
      | inl near ↦
          ap (λ b. since_of s.metric (unwrap_or (cond b (Some t.1) rest) [])) (same-itself s.test t.0 (test-of t.0 t.1 s near)) ∙ from-one t.0 t.1 s each.0 near
      | inr far ↦
          ap (λ b. since_of s.metric (unwrap_or (cond b (Some t.1) rest) []))
          (not-below s.test t.0 (later (slice_cmp nat_cmp) t.0 (keys_of ts) s.test up (test-in ts s far)))
          ∙ from-all ts s (sorted_tail (slice_cmp nat_cmp) t.0 (keys_of ts) up) each.1 far
    ]

pub listed : (ts : Tests) → IsStrictlySortedBy (slice_cmp nat_cmp) (keys_of ts) → AllByRecursion HasSorted ts → AreKnown ts (all_known ts)
listed ts up each = grind (arith, common_steps, into-all, from-all, all-sorted)

-- an order of the tests by their names, each with its place
module _ (tests : Tests) where
  keys-in-places : (order : List (List ℕ × ℕ)) → keys_of (in_places tests order) ≡ keys_of order
  keys-in-places [] = refl
  keys-in-places (e ∷ es) = ap (λ (ks : List (List ℕ)). e.0 ∷ ks) (keys-in-places es)

  found-in-places : (t : List ℕ) (order : List (List ℕ × ℕ)) → lookup (λ (n : List ℕ). is_same t n) (in_places tests order) ≡ at_place tests (lookup (λ (n : List ℕ). is_same t n) order)
  found-in-places t [] = refl
  found-in-places t (e ∷ es) = grind (arith, common_steps, found-in-places t es)

  pub listed-in-order : (order : List (List ℕ × ℕ)) → IsStrictlySortedBy (slice_cmp nat_cmp) (keys_of order) → AllByRecursion HasSorted (in_places tests order)
      → ((t : List ℕ) → at_place tests (lookup (λ (n : List ℕ). is_same t n) order) ≡ lookup (λ (n : List ℕ). is_same t n) tests)
      → AreKnown tests (all_known (in_places tests order))
  listed-in-order order up each found =
      let ts : Tests = in_places tests order in
      let known = listed ts (subst (IsStrictlySortedBy (slice_cmp nat_cmp)) (sym (keys-in-places order)) up) each in
      let same : (s : Series) → seen s ts ≡ seen s tests = λ s. ap (λ (o : Option Metrics). seen_of s.metric (unwrap_or o [])) (found-in-places s.test order ∙ found s.test) in
      record {
        just = λ s. subst (λ (t : Tracked). (is_some t.since ≡ true) ↔ Contains (all_known ts) s) (same s) (known.just s);
        ordered = known.ordered;
      }

-- one place more
pub one-place-more : (tests : Tests) (order : Option ℕ) (place : ℕ) (key t : List ℕ) (x : List ℕ × Metrics) (more : Tests)
    → metrics_at tests place ≡ x.1 → key ≡ x.0 → at_place tests order ≡ lookup (λ (n : List ℕ). is_same t n) more
    → at_place tests (cond (is_same key t) (Some place) order) ≡ lookup (λ (n : List ℕ). is_same t n) (x ∷ more)
one-place-more tests order place key t x more is named rest = grind (arith, common_steps, is_same, turned, cond, cases_Bool, lookup)
