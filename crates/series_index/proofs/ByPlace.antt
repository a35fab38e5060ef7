-- The metrics at the place of a test, and what a write there makes of what is found by name.
use Rattle.std.proofs.Common.{◌≡◌, ℕ, zero, suc, ◌+◌, ◌<◌, ◌≤◌, Bool, true, false, cond, not, nat_lt, List, [], ◌∷◌, ◌++◌, length, set, drop, get_or, refl, sym, ap, subst, ◌∙◌, Option, Some, None, inl, inr, arith}
use Rattle.std.specs.{Prelude.{bytes_eq, position, unwrap_or}, List.position_or_len, Map.{keys_of, lookup}, Cmp.Lexicographic.nat_list_eq_equiv}
use Rattle.std.proofs.lemmas.{Bool.{cases_Bool, cases_lt, lt-ltb}, List.Quantifiers.position-Some, Map.Text.is_eq-slice_cmp, Grind.common_steps}
use Rattle.series_index.specs.{declared.tracked.Tracked.Tracked, Seen.{is_same, is_series, unseen, seen_of, seen}}
use Rattle.history_model.specs.Runs.{Series}
use Rattle.series_index.proofs.Written.{Metrics, same-name, seen-within, same-within, absent-within}

abbrev pub Tests : Type 0
Tests = List (List ℕ × Metrics)

abbrev metrics_of : List ℕ → Tests → Option Metrics
metrics_of test es = lookup (λ (n : List ℕ). is_same test n) es

-- ---- names
pub turned : (one other : List ℕ) → is_same one other ≡ is_same other one
turned one other = is_eq-slice_cmp one other ∙ nat_list_eq_equiv.symm one other ∙ sym (is_eq-slice_cmp other one)

pub as-same : (test name q : List ℕ) → is_same test name ≡ true → is_same q name ≡ is_same test q
as-same test name q same = ap (λ (n : List ℕ). is_same q n) (sym (same-name test name same)) ∙ turned q test

twice : {A : Type 0} (b : Bool) (x y z : A) → cond b x z ≡ cond b x (cond b y z)
twice b x y z = grind (arith, common_steps)

-- behind a test of another name
past-other : (test q : List ℕ) (e : List ℕ × Metrics) (m : Metrics) (es : Tests) → is_same test e.0 ≡ false
    → cond (is_same q e.0) (Some e.1) (cond (is_same test q) (Some m) (metrics_of q es)) ≡ cond (is_same test q) (Some m) (metrics_of q (e ∷ es))
past-other test q e m es other = grind (arith, common_steps, cases_Bool, same-name, cond, metrics_of)

-- ---- the first place of a name
module _ (test : List ℕ) (r : List ℕ × Metrics) (here : is_same test r.0 ≡ true) where
  metrics-at : (es : Tests) (p : ℕ) → p < length es → r ≡ get_or es p r → ((k : ℕ) → k < p → is_same test (get_or es k r).0 ≡ false) → metrics_of test es ≡ Some r.1
  metrics-at [] p lt at before = absurd (omega arith)
  metrics-at (e ∷ es) zero lt at before = grind (arith, common_steps)
  metrics-at (e ∷ es) (suc p) lt at before =
      ap (λ b. cond b (Some e.1) (metrics_of test es)) (before 0 (omega arith))
      ∙ metrics-at es p (omega arith) at (λ k less. before (suc k) (omega arith))

  metrics-written : (m : Metrics) (es : Tests) (p : ℕ) → p < length es → r ≡ get_or es p r → ((k : ℕ) → k < p → is_same test (get_or es k r).0 ≡ false)
      → (q : List ℕ) → metrics_of q (set es p (r.0, m)) ≡ cond (is_same test q) (Some m) (metrics_of q es)
  metrics-written m [] p lt at before q = absurd (omega arith)
  metrics-written m (e ∷ es) zero lt at before q = grind (arith, common_steps, r.0, test, as-same, here, cond, metrics_of, twice)
  metrics-written m (e ∷ es) (suc p) lt at before q =
      let next = metrics-written m es p (omega arith) at (λ k less. before (suc k) (omega arith)) q in
      ap (cond (is_same q e.0) (Some e.1)) next ∙ past-other test q e m es (before 0 (omega arith))

same-keys : (r : List ℕ × Metrics) (m : Metrics) (es : Tests) (p : ℕ) → r ≡ get_or es p r → keys_of (set es p (r.0, m)) ≡ keys_of es
same-keys r m [] p at = refl
same-keys r m (e ∷ es) zero at = ap (λ (x : List ℕ × Metrics). x.0 ∷ keys_of es) at
same-keys r m (e ∷ es) (suc p) at = ap (λ (ks : List (List ℕ)). e.0 ∷ ks) (same-keys r m es p at)

keys-at : (es : Tests) (k : ℕ) (r : List ℕ × Metrics) → get_or (keys_of es) k r.0 ≡ (get_or es k r).0
keys-at [] k r = refl
keys-at (e ∷ es) zero r = refl
keys-at (e ∷ es) (suc k) r = keys-at es k r

length-keys : (es : Tests) → length (keys_of es) ≡ length es
length-keys [] = refl
length-keys (e ∷ es) = ap suc (length-keys es)

-- ---- of an index: its names, and the place of one of them
module _ (test : List ℕ) (names : List (List ℕ)) (es : Tests) (p : ℕ) (r : List ℕ × Metrics) (same : names ≡ keys_of es)
    (found : position (λ (k : List ℕ). bytes_eq test k) names ≡ Some p) (at : r ≡ get_or es p r) where
  stands : (p < length (keys_of es)) × (bytes_eq test (get_or (keys_of es) p r.0) ≡ true) × ((k : ℕ) → k < p → bytes_eq test (get_or (keys_of es) k r.0) ≡ false)
  stands = position-Some (λ (k : List ℕ). bytes_eq test k) (keys_of es) p r.0 (ap (position (λ (k : List ℕ). bytes_eq test k)) (sym same) ∙ found)

  within : p < length es
  within = let lt = stands.0 in omega (arith, length-keys es, lt)

  here : is_same test r.0 ≡ true
  here = is_eq-slice_cmp test r.0 ∙ ap (λ (x : List ℕ × Metrics). bytes_eq test x.0) at ∙ ap (bytes_eq test) (sym (keys-at es p r)) ∙ stands.1

  before : (k : ℕ) → k < p → is_same test (get_or es k r).0 ≡ false
  before k less = is_eq-slice_cmp test (get_or es k r).0 ∙ ap (bytes_eq test) (sym (keys-at es k r)) ∙ stands.2 k less

  found-metrics : metrics_of test es ≡ Some r.1
  found-metrics = metrics-at test r here es p within at before

  put-metrics : (m : Metrics) (q : List ℕ) → metrics_of q (set es p (r.0, m)) ≡ cond (is_same test q) (Some m) (metrics_of q es)
  put-metrics m q = metrics-written test r here m es p within at before q

  pub put-keys : (m : Metrics) → names ≡ keys_of (set es p (r.0, m))
  put-keys m = same ∙ sym (same-keys r m es p at)

  -- what is seen there, and what is seen after a write there
  module _ (now : Tests) (view_is : es ≡ now) where
    pub seen-at : (m : List ℕ) → seen (record { test = test; metric = m }) now ≡ seen_of m r.1
    seen-at m =
        ap (λ (ts : Tests). seen (record { test = test; metric = m }) ts) (sym view_is) ∙ ap (λ (o : Option Metrics). seen_of m (unwrap_or o [])) found-metrics

    there : unwrap_or (metrics_of test es) [] ≡ r.1
    there = ap (λ (o : Option Metrics). unwrap_or o []) found-metrics

    abbrev after : Metrics → List ℕ → Option Metrics
    after m q = metrics_of q (set es p (r.0, m))

    pub seen-put : (new : Metrics) (metric : List ℕ) (f : Tracked → Tracked) → ((m : List ℕ) → seen_of m new ≡ cond (is_same metric m) (f (seen_of m r.1)) (seen_of m r.1))
        → (s : Series) → seen s (set es p (r.0, new)) ≡ cond (is_series test metric s) (f (seen s now)) (seen s now)
    seen-put new metric f inner s =
        seen-within (λ q. metrics_of q es) (after new) test r.1 new there (put-metrics new) metric f inner s
        ∙ ap (λ (ts : Tests). cond (is_series test metric s) (f (seen s ts)) (seen s ts)) view_is

    pub same-put : (new : Metrics) → ((m : List ℕ) → seen_of m new ≡ seen_of m r.1) → (s : Series) → seen s (set es p (r.0, new)) ≡ seen s now
    same-put new inner s =
        same-within (λ q. metrics_of q es) (after new) test r.1 new there (put-metrics new) inner s ∙ ap (λ (ts : Tests). seen s ts) view_is

-- ---- a name that isn't there
absent : (test : List ℕ) (es : Tests) → length es ≤ position_or_len (λ (k : List ℕ). bytes_eq test k) (keys_of es) → metrics_of test es ≡ None
absent test [] past = refl
absent test (e ∷ es) past =
    let n : ℕ = position_or_len (λ (k : List ℕ). bytes_eq test k) (keys_of es) in
    elim (cases_Bool (bytes_eq test e.0)) [
      | inl hit ↦ absurd (let no : suc (length es) ≤ 0 = subst (λ b. suc (length es) ≤ cond (not b) (1 + n) 0) hit past in omega (arith, no))
      | inr miss ↦
          let more : suc (length es) ≤ 1 + n = subst (λ b. suc (length es) ≤ cond (not b) (1 + n) 0) miss past in
          ap (λ b. cond b (Some e.1) (metrics_of test es)) (is_eq-slice_cmp test e.0 ∙ miss) ∙ absent test es (omega (arith, more))
    ]

pub none-metrics : (test : List ℕ) (names : List (List ℕ)) (es : Tests) → names ≡ keys_of es → position (λ (k : List ℕ). bytes_eq test k) names ≡ None → metrics_of test es ≡ None
none-metrics test names es same none = grind (arith, common_steps, cond, nat_lt, length, cases_lt, lt-ltb, absent, length-keys)

-- ---- one test more
added-metrics : (test : List ℕ) (m : Metrics) (es : Tests) → metrics_of test es ≡ None → (q : List ℕ) → metrics_of q (es ++ (test, m) ∷ []) ≡ cond (is_same test q) (Some m) (metrics_of q es)
added-metrics test m [] none q = ap (λ b. cond b (Some m) None) (turned q test)
added-metrics test m (e ∷ es) none q = elim (cases_Bool (is_same test e.0)) [
  | inl hit ↦ absurd (let no : Some e.1 ≡ None = sym (ap (λ b. cond b (Some e.1) (metrics_of test es)) hit) ∙ none in cc)
  | inr other ↦
      let rest : metrics_of test es ≡ None = sym (ap (λ b. cond b (Some e.1) (metrics_of test es)) other) ∙ none in
      ap (cond (is_same q e.0) (Some e.1)) (added-metrics test m es rest q) ∙ past-other test q e m es other
]

module _ (test metric : List ℕ) (es now : Tests) (view_is : es ≡ now) (none : metrics_of test es ≡ None) where
  pub unseen-at : seen (record { test = test; metric = metric }) now ≡ unseen
  unseen-at = grind (arith, common_steps)

  -- what leaves an unseen series as it is changes nothing
  pub seen-none : (f : Tracked → Tracked) → f unseen ≡ unseen → (s : Series) → seen s now ≡ cond (is_series test metric s) (f (seen s now)) (seen s now)
  seen-none f same s =
      sym (ap (λ (ts : Tests). seen s ts) view_is)
      ∙ absent-within (λ q. metrics_of q es) test metric f none same s
      ∙ ap (λ (ts : Tests). cond (is_series test metric s) (f (seen s ts)) (seen s ts)) view_is

  pub seen-added : (new : Metrics) (f : Tracked → Tracked) → ((m : List ℕ) → seen_of m new ≡ cond (is_same metric m) (f (seen_of m [])) (seen_of m []))
      → (s : Series) → seen s (es ++ (test, new) ∷ []) ≡ cond (is_series test metric s) (f (seen s now)) (seen s now)
  seen-added new f inner s =
      seen-within (λ q. metrics_of q es) (λ q. metrics_of q (es ++ (test, new) ∷ [])) test [] new (ap (λ (o : Option Metrics). unwrap_or o []) none)
      (added-metrics test new es none) metric f inner s
      ∙ ap (λ (ts : Tests). cond (is_series test metric s) (f (seen s ts)) (seen s ts)) view_is

-- ---- what is read at a place
pub read-at : (es : Tests) (p : ℕ) (r d : List ℕ × Metrics) → p < length es → get_or es p r ≡ get_or es p d
read-at [] p r d lt = absurd (omega arith)
read-at (e ∷ es) zero r d lt = refl
read-at (e ∷ es) (suc p) r d lt = read-at es p r d (omega arith)

pub read-past : (es : Tests) (p : ℕ) (d : List ℕ × Metrics) → length es ≤ p → get_or es p d ≡ d
read-past [] p d past = refl
read-past (e ∷ es) zero d past = absurd (omega arith)
read-past (e ∷ es) (suc p) d past = read-past es p d (omega arith)

pub one-behind : (es : Tests) (k : ℕ) (d : List ℕ × Metrics) → k < length es → drop k es ≡ get_or es k d ∷ drop (k + 1) es
one-behind [] k d lt = absurd (omega arith)
one-behind (e ∷ es) zero d lt = refl
one-behind (e ∷ es) (suc k) d lt = grind (arith, common_steps, one-behind es k d (omega arith))
