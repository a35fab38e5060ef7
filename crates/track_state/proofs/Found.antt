-- Which series an entry touches, by what is found of it.
use Rattle.std.proofs.lemmas.Grind.{common_steps}
use Rattle.std.proofs.Common.{◌≡◌, ℕ, Bool, true, false, ◌&&◌, ◌||◌, List, [], ◌∷◌, refl, sym, ap, ap₂, subst, ◌∙◌, inl, inr, Option, Some, None, arith}
use Rattle.std.{specs.Prelude.{◌↔◌, Contains, bytes_eq, find, option_map}, proofs.lemmas.Bool.{and_parts, cases_Bool}, proofs.lemmas.Slice.Eq.bytes_eq-Decides}
use Rattle.history_model.specs.declared.entries.{Acceptance.Acceptance, Entry.Entry}
use Rattle.history_model.specs.declared.entries.Entry.TheVariants as entry
use Rattle.history_model.{specs.Runs.{Series, accepted, is_known, retractions, same_series}, proofs.Members.{behind, either, here, none-in-nil}}
use Rattle.sample_store.specs.{Runs.names, declared.store.Stored.Stored}
use Rattle.touch_model.specs.Touches.{has_sample}
use Rattle.track_step.{specs.Indexes.{stored, stored_runs}, proofs.Marks.look-up}
use Rattle.track_state.specs.Touching.{named, sampled, touched_by}

-- ---- a run that is retracted
unknown-run : (s : Series) (o : Option Acceptance) (taken : Acceptance → Stored) → option_map taken o ≡ None → has_sample s o ≡ false
unknown-run s o taken none = grind (arith, common_steps)

pub no-run : (h : List Entry) (run : List ℕ) → find (names run) (stored_runs h) ≡ None → (s : Series) → touched_by h (entry.Retract run) s ≡ false
no-run h run none s = unknown-run s (accepted run h) (stored (retractions h)) (sym (look-up h run) ∙ none)

known-run : (s : Series) (o : Option Acceptance) (taken : Acceptance → Stored) → ((a : Acceptance) → (taken a).run ≡ a.run) → (found : Stored) → option_map taken o ≡ Some found
    → sampled found.run.samples s ≡ has_sample s o
known-run s o taken same found is = grind (arith, common_steps)

pub run-of : (h : List Entry) (run : List ℕ) (found : Stored) → find (names run) (stored_runs h) ≡ Some found → (s : Series)
    → sampled found.run.samples s ≡ touched_by h (entry.Retract run) s
run-of h run found is s = known-run s (accepted run h) (stored (retractions h)) (λ a. refl) found (sym (look-up h run) ∙ is)

-- ---- a metric that is tuned
same-pair : (n s : Series) → same_series n s ≡ true → n ≡ s
same-pair n s both = grind (arith, common_steps, and_parts, bytes_eq, ap₂, bytes_eq-Decides)

eq-bytes : (xs : List ℕ) → bytes_eq xs xs ≡ true
eq-bytes xs = (bytes_eq-Decides xs xs).1 refl

same-itself : (s : Series) → same_series s s ≡ true
same-itself s = ap (λ b. b && bytes_eq s.metric s.metric) (eq-bytes s.test) ∙ eq-bytes s.metric

and-false : (b : Bool) → (b && false) ≡ false
and-false b = grind (arith, common_steps)

-- a list names the series where it has it, and the metric is its own
listed : (metric : List ℕ) (names : List Series) (s : Series) → Contains names s → bytes_eq s.metric metric ≡ true → named metric names s ≡ true
listed metric [] s has of = absurd (none-in-nil s has)
listed metric (n ∷ ns) s has of = elim (either s n ns has) [
  | inl same ↦
      ap (λ (m : Series). (same_series m s && bytes_eq m.metric metric) || named metric ns s) same
      ∙ ap (λ b. (b && bytes_eq s.metric metric) || named metric ns s) (same-itself s) ∙ ap (λ b. b || named metric ns s) of
  | inr later ↦
      ap (λ b. (same_series n s && bytes_eq n.metric metric) || b) (listed metric ns s later of) ∙ or-true (same_series n s && bytes_eq n.metric metric)
]
  where
    or-true : (b : Bool) → (b || true) ≡ true
    or-true true = refl
    or-true false = refl

its-own : (metric : List ℕ) (names : List Series) (s : Series) → named metric names s ≡ true → Contains names s × (bytes_eq s.metric metric ≡ true)
its-own metric [] s is = absurd (let never : false ≡ true = is in cc)
its-own metric (n ∷ ns) s is = elim (cases_Bool (same_series n s && bytes_eq n.metric metric)) [
  | inl hit ↦
      let parts = split (same_series n s) (bytes_eq n.metric metric) hit in
      let same : n ≡ s = same-pair n s parts.0 in
      (at same, sym (ap (λ (m : Series). bytes_eq m.metric metric) same) ∙ parts.1)
  | inr miss ↦
      let rest = its-own metric ns s (sym (ap (λ b. b || named metric ns s) miss) ∙ is) in
      (behind s n ns rest.0, rest.1)
]
  where
    split : (a b : Bool) → (a && b) ≡ true → (a ≡ true) × (b ≡ true)
    split true true both = (refl, refl)
    split true false both = absurd (cc)
    split false b both = absurd (cc)

    at : n ≡ s → Contains (n ∷ ns) s
    at same = subst (λ (x : Series). Contains (n ∷ ns) x) same (here n ns)

truth : (a b : Bool) → (a ≡ true → b ≡ true) → (b ≡ true → a ≡ true) → a ≡ b
truth a b to from = grind (arith, common_steps)

turned : (xs ys : List ℕ) → bytes_eq xs ys ≡ true → bytes_eq ys xs ≡ true
turned xs ys same = (bytes_eq-Decides ys xs).1 (sym ((bytes_eq-Decides xs ys).0 same))

pub metric-of : (h : List Entry) (metric : List ℕ) (names : List Series) → ((s : Series) → (is_known s h ≡ true) ↔ Contains names s) → (s : Series)
    → named metric names s ≡ (is_known s h && bytes_eq metric s.metric)
metric-of h metric names known s = grind (arith, common_steps, truth, is_known, bytes_eq, its-own, turned, listed)
