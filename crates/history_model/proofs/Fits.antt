-- When a run more stays within the limits of each series.
use Rattle.std.proofs.Common.{◌≡◌, ℕ, zero, ◌+◌, ◌≤◌, ◌<◌, max, true, false, cond, List, [], ◌∷◌, ◌++◌, length, map, refl, sym, ap, ◌∙◌, inl, inr, arith, suc}
use Rattle.std.{specs.Prelude.{None, filter}, proofs.lemmas.Bool.{cases_Bool, cases_order, le-ltb, eq-eqb, ne_eqb}}
use Rattle.std.proofs.lemmas.{List.{append-nil, append_assoc, length-append, length-map}, List.Sums.sum_by_push, Grind.common_steps}
use Rattle.metric_table.specs.{Limits.most, declared.limits.Limit.Limit}
use Rattle.metric_table.specs.declared.limits.Limit.TheVariants as limit
use Rattle.segment_model.{specs.Segments.{Observation, Position, values_of}, specs.Edits.{inserted, has_commit}, proofs.Inserted.{values-brought, size-new}}
use Rattle.history_model.specs.declared.{entries.Acceptance.Acceptance, entries.Entry.Entry, run.Run.Run}
use Rattle.history_model.specs.declared.entries.Entry.TheVariants as entry
use Rattle.history_model.specs.{Allowed.{KeepsLimits, count_of, greatest_of, first_passed, run_limits}, Commits.declaration}
use Rattle.history_model.specs.{Laws.{observed, with_all, CountsWith}, Positions.{Brought, brought_by, brought, rising, position_at, positions, positions_of}}
use Rattle.history_model.specs.{Publications.publication, Runs.{Series, acceptance, acceptances, retracted, live_runs, known_series, is_of}}
use Rattle.sample_model.specs.Samples.{Measurement, AreSamples}
use Rattle.history_model.proofs.{Accepts.{positions-more, positions-accept}, Counts.all-more, Chosen.{chosen-push, chosen-skip}, Standings.jobs-stay}
use Rattle.history_model.proofs.{Commit.has-inserted, Listed.known-grow, Room.{samples-kept, positions-kept}}
use Rattle.segment_model.proofs.{Insertions.positions-push, Rising.{RisesFrom, rising-rises}}

greatest-most : (f : Series → ℕ) (ks : List Series) (n : ℕ) → ((k : Series) → f k ≤ n) → greatest_of (map f ks) ≤ n
greatest-most f [] n all = omega arith
greatest-most f (k ∷ ks) n all = grind (arith, common_steps, greatest-most f ks n all)

-- ---- positions with more values at one commit
abbrev commits : List Position → List ℕ
commits points = map (λ (p : Position). p.commit) points

positions-rise : (items : List Brought) → RisesFrom 0 (commits (positions_of items))
positions-rise items = rw (same (rising (map (λ (x : Brought). x.commit) items))) (rising-rises (map (λ (x : Brought). x.commit) items))
  where
    same : (cs : List ℕ) → commits (map (position_at items) cs) ≡ cs
    same [] = refl
    same (c ∷ cs) = ap (λ ds. c ∷ ds) (same cs)

above-all : (low commit : ℕ) (points : List Position) → RisesFrom low (commits points) → has_commit commit points ≡ true → low ≤ commit
above-all low commit [] rises has = absurd (cc)
above-all low commit (p ∷ points) rises has = elim (cases_order p.commit commit) [
  | inl same ↦ let le : low ≤ p.commit = rises.0 in omega (arith, le, same)
  | inr other ↦
      let rest : suc p.commit ≤ commit = above-all (suc p.commit) commit points rises.1
      (sym (ap (λ b. cond b true (has_commit commit points)) (ne_eqb p.commit commit (λ e. elim other [ inl lt ↦ omega (arith, e, lt) | inr gt ↦ omega (arith, e, gt) ]))) ∙ has) in
      let le : low ≤ p.commit = rises.0 in
      omega (arith, le, rest)
]

size-there : (low commit : ℕ) (x : Observation) (points : List Position) → RisesFrom low (commits points) → has_commit commit points ≡ true → length (inserted commit x points) ≡ length points
size-there low commit x [] rises has = absurd (cc)
size-there low commit x (p ∷ points) rises has = elim (cases_order commit p.commit) [
  | inl same ↦ rw (le-ltb commit p.commit (omega (arith, same)), eq-eqb p.commit commit (sym same)) refl
  | inr other ↦ elim other [
    | inl below ↦ absurd (
        let rest : suc p.commit ≤ commit = grind (arith, common_steps, above-all, cond, has_commit, ne_eqb) in
        omega (arith, rest, below))
    | inr above ↦ rw (le-ltb commit p.commit (omega (arith, above)), ne_eqb p.commit commit (λ e. omega (arith, e, above))) (
        let rest = size-there (suc p.commit) commit x points rises.1 (sym (ap (λ b. cond b true (has_commit commit points)) (ne_eqb p.commit commit (λ e. omega (arith, e, above)))) ∙ has) in
        omega (arith, rest))
  ]
]

module _ (commit step : ℕ) where
  abbrev new : Measurement → Brought
  new x = record { commit = commit; step = step; value = x.value }

  stay : (items : List Brought) (xs : List Measurement) → has_commit commit (positions_of items) ≡ true → length (positions_of (items ++ map new xs)) ≡ length (positions_of items)
  stay items [] has = ap (λ zs. length (positions_of zs)) (append-nil items)
  stay items (x ∷ xs) has =
      ap (λ zs. length (positions_of zs)) (sym (append_assoc items (new x ∷ []) (map new xs)))
      ∙ stay (items ++ new x ∷ []) xs (ap (has_commit commit) (positions-push items (new x)) ∙ has-inserted commit (observed (new x)) (positions_of items))
      ∙ ap (λ (ps : List Position). length ps) (positions-push items (new x))
      ∙ size-there 0 commit (observed (new x)) (positions_of items) (positions-rise items) has

  one-new : (items : List Brought) (x : Measurement) (xs : List Measurement) → has_commit commit (positions_of items) ≡ false → length (positions_of (items ++ map new (x ∷ xs))) ≡ length (positions_of items) + 1
  one-new items x xs none =
      ap (λ zs. length (positions_of zs)) (sym (append_assoc items (new x ∷ []) (map new xs)))
      ∙ stay (items ++ new x ∷ []) xs (ap (has_commit commit) (positions-push items (new x)) ∙ has-inserted commit (observed (new x)) (positions_of items))
      ∙ ap (λ (ps : List Position). length ps) (positions-push items (new x))
      ∙ size-new commit (observed (new x)) (positions_of items) none

  few : (items : List Brought) (xs : List Measurement) (n : ℕ) → length (positions_of items) ≤ n
      → (0 < length xs → has_commit commit (positions_of items) ≡ false → length (positions_of items) < n) → length (positions_of (items ++ map new xs)) ≤ n
  few items [] n le room = rw append-nil le
  few items (x ∷ xs) n le room = elim (cases_Bool (has_commit commit (positions_of items))) [
    | inl has ↦ let same = stay items (x ∷ xs) has in omega (arith, same, le)
    | inr none ↦ let more = one-new items x xs none in let lt = room (omega arith) none in omega (arith, more, lt)
  ]

module _ (h : List Entry) (run : Run) (keeps : KeepsLimits h) (live : retracted run.run h ≡ None) where
  abbrev a : Acceptance
  a = record { step = length h + 1; run = run }

  pub samples-fit : ((s : Series) → 0 < length (filter (is_of s) run.samples) → length (values_of (positions h s)) + length (filter (is_of s) run.samples) ≤ most limit.SeriesSamples)
      → count_of limit.SeriesSamples (h ++ entry.Accept run ∷ []) ≤ most limit.SeriesSamples
  samples-fit room =
      greatest-most (λ (s : Series). length (brought s (live_runs (h ++ entry.Accept run ∷ [])))) (known_series (h ++ entry.Accept run ∷ [])) (most limit.SeriesSamples) (λ s.
      let after : length (values_of (positions (h ++ entry.Accept run ∷ []) s)) ≡ length (values_of (with_all (brought_by s a) (positions h s))) =
      ap (λ ps. length (values_of ps)) (positions-accept h run s live) in
      let more = all-more (brought_by s a) (positions h s) in
      let count : length (brought_by s a) ≡ length (filter (is_of s) run.samples) = length-map (filter (is_of s) run.samples) (λ (x : Measurement). let y : Brought = record { commit = run.commit; step = length h + 1; value = x.value } in y) in
      let is = values-brought (brought s (live_runs (h ++ entry.Accept run ∷ []))) in
      let before = values-brought (brought s (live_runs h)) in
      let kept = samples-kept h s (keeps limit.SeriesSamples) in
      within s (length (filter (is_of s) run.samples)) refl (omega (arith, after, more, count, is)) (omega (arith, before, kept)))
    where
      within : (s : Series) (n : ℕ) → n ≡ length (filter (is_of s) run.samples)
          → length (brought s (live_runs (h ++ entry.Accept run ∷ []))) ≡ length (values_of (positions h s)) + length (filter (is_of s) run.samples)
          → length (values_of (positions h s)) ≤ most limit.SeriesSamples
          → length (brought s (live_runs (h ++ entry.Accept run ∷ []))) ≤ most limit.SeriesSamples
      within s zero n_is total le = omega (arith, n_is, total, le)
      within s (suc n) n_is total le = let enough = room s (omega (arith, n_is)) in omega (arith, total, enough)

  pub positions-fit : ((s : Series) → 0 < length (filter (is_of s) run.samples) → has_commit run.commit (positions h s) ≡ false → length (positions h s) < most limit.Positions)
      → count_of limit.Positions (h ++ entry.Accept run ∷ []) ≤ most limit.Positions
  positions-fit room =
      greatest-most (λ (s : Series). length (positions (h ++ entry.Accept run ∷ []) s)) (known_series (h ++ entry.Accept run ∷ [])) (most limit.Positions) (λ s.
      let after : length (positions (h ++ entry.Accept run ∷ []) s) ≡ length (positions_of (brought s (live_runs h) ++ brought_by s a)) =
      ap (λ (ps : List Position). length ps) (positions-accept h run s live ∙ sym (positions-more (brought s (live_runs h)) (brought_by s a))) in
      let all = few run.commit (length h + 1) (brought s (live_runs h)) (filter (is_of s) run.samples) (most limit.Positions) (positions-kept h s (keeps limit.Positions)) (room s) in
      omega (arith, after, all))

-- ---- the other counts
pub counts-with : (h : List Entry) (run : Run) → CountsWith h run
counts-with h run = grind (arith, common_steps, length-append, length, chosen-push, sum_by_push, known-grow)

-- ---- all limits
module _ (h : List Entry) (run : Run) (keeps : KeepsLimits h) (are : AreSamples run.samples) (passes : first_passed run_limits h (entry.Accept run) ≡ None) where
  sizes : (xs : List Acceptance) (x : Acceptance) (n : ℕ) → greatest_of (map (λ (b : Acceptance). length b.run.samples) xs) ≤ n → length x.run.samples ≤ n
      → greatest_of (map (λ (b : Acceptance). length b.run.samples) (xs ++ x ∷ [])) ≤ n
  sizes [] x n all one = grind (arith, common_steps)
  sizes (y ∷ xs) x n all one =
      let two = split (length y.run.samples) (greatest_of (map (λ (b : Acceptance). length b.run.samples) xs)) all in
      join (length y.run.samples) (greatest_of (map (λ (b : Acceptance). length b.run.samples) (xs ++ x ∷ []))) two.0 (sizes xs x n two.1 one)
    where
      split : (k m : ℕ) → max k m ≤ n → (k ≤ n) × (m ≤ n)
      split k m le = (grind (arith), grind (arith))

      join : (k m : ℕ) → k ≤ n → m ≤ n → max k m ≤ n
      join k m one other = grind (arith)

  abbrev Kept : Limit → List Limit → Type 0
  Kept limit limits = (count_of limit (h ++ entry.Accept run ∷ []) ≤ most limit) × (first_passed limits h (entry.Accept run) ≡ None)

  kept : (limit : Limit) (limits : List Limit) → first_passed (limit ∷ limits) h (entry.Accept run) ≡ None
      → (count_of limit (h ++ entry.Accept run ∷ []) ≤ most limit) × (first_passed limits h (entry.Accept run) ≡ None)
  kept limit limits none = grind (arith, common_steps)

  steps-kept : Kept limit.Steps (limit.Runs ∷ limit.Samples ∷ limit.Series ∷ limit.SeriesSamples ∷ limit.Positions ∷ [])
  steps-kept = kept limit.Steps (limit.Runs ∷ limit.Samples ∷ limit.Series ∷ limit.SeriesSamples ∷ limit.Positions ∷ []) passes

  runs-kept : Kept limit.Runs (limit.Samples ∷ limit.Series ∷ limit.SeriesSamples ∷ limit.Positions ∷ [])
  runs-kept = kept limit.Runs (limit.Samples ∷ limit.Series ∷ limit.SeriesSamples ∷ limit.Positions ∷ []) steps-kept.1

  samples-within : Kept limit.Samples (limit.Series ∷ limit.SeriesSamples ∷ limit.Positions ∷ [])
  samples-within = kept limit.Samples (limit.Series ∷ limit.SeriesSamples ∷ limit.Positions ∷ []) runs-kept.1

  series-kept : Kept limit.Series (limit.SeriesSamples ∷ limit.Positions ∷ [])
  series-kept = kept limit.Series (limit.SeriesSamples ∷ limit.Positions ∷ []) samples-within.1

  series-samples-kept : Kept limit.SeriesSamples (limit.Positions ∷ [])
  series-samples-kept = kept limit.SeriesSamples (limit.Positions ∷ []) series-kept.1

  positions-within : Kept limit.Positions []
  positions-within = kept limit.Positions [] series-samples-kept.1

  pub limits-accept : KeepsLimits (h ++ entry.Accept run ∷ [])
  limits-accept limit.Steps = steps-kept.0
  limits-accept limit.Commits = rw (chosen-skip declaration h (entry.Accept run) refl) (keeps limit.Commits)
  limits-accept limit.Machines = keeps limit.Machines
  limits-accept limit.Cuts = rw (chosen-skip publication h (entry.Accept run) refl) (keeps limit.Cuts)
  limits-accept limit.Jobs = rw (jobs-stay h (entry.Accept run) refl (λ n. refl)) (keeps limit.Jobs)
  limits-accept limit.Runs = runs-kept.0
  limits-accept limit.RunSamples =
      rw (chosen-push acceptance h (entry.Accept run)) (sizes (acceptances h) (record { step = length h + 1; run = run }) (most limit.RunSamples) (keeps limit.RunSamples) are.few)
  limits-accept limit.Samples = samples-within.0
  limits-accept limit.Series = series-kept.0
  limits-accept limit.SeriesSamples = series-samples-kept.0
  limits-accept limit.Positions = positions-within.0
