-- The positions of a series after a run was taken back: the samples of its step go.
use Rattle.std.proofs.Common.{◌≡◌, ℕ, suc, ◌+◌, ◌≤◌, ◌<◌, Bool, true, false, cond, not, ◌&&◌, ◌==◌, List, [], ◌∷◌, ◌++◌, length, map, refl, sym, ap, ◌∙◌, subst, inl, inr, arith}
use Rattle.std.specs.{Prelude.{Some, None, find, is_none, bytes_eq, filter}, Option.option_or, List.list_any, Cmp.Lexicographic.nat_list_eq_equiv}
use Rattle.std.proofs.lemmas.{Bool.{cases_Bool, eq-eqb, ne_eqb}, List.Elements.filter-append, List.Folds.find-append, Grind.common_steps}
use Rattle.history_model.specs.{declared.entries.Acceptance.Acceptance, declared.entries.Entry.Entry, Allowed.{Allowed, Legal}, Laws.is_other}
use Rattle.history_model.specs.declared.entries.Entry.TheVariants as entry
use Rattle.segment_model.specs.Edits.{removed}
use Rattle.history_model.{specs.Positions.{Brought, brought_by, brought, positions, positions_of}, proofs.Removals.positions-without}
use Rattle.history_model.specs.Runs.{Series, Retraction, acceptance, acceptances, retraction, retractions, accepted, is_run, takes_back, live_of, is_of}
use Rattle.sample_model.specs.Samples.{Measurement}
use Rattle.history_model.{specs.Entries.chosen_from, proofs.Growth.legal-each, proofs.Chosen.{chosen-push, chosen-skip}, proofs.Lists.{same-bytes, filter-none}}

-- ---- no name stands in two acceptances
abbrev NamedOnce : List Acceptance → Type 0
NamedOnce [] = Unit {0}
NamedOnce (a ∷ runs) = (find (is_run a.run.run) runs ≡ None) × NamedOnce runs

head-none : {A : Type 0} (p : A → Bool) (x : A) (xs : List A) → find p (x ∷ xs) ≡ None → (p x ≡ false) × (find p xs ≡ None)
head-none p x xs = elim (p x) as (λ b. cond b (Some x) (find p xs) ≡ None → (b ≡ false) × (find p xs ≡ None)) [ true ↦ (λ e. absurd (cc)) | false ↦ (λ e. (refl, e)) ]

once-push : (runs : List Acceptance) (a : Acceptance) → NamedOnce runs → find (is_run a.run.run) runs ≡ None → NamedOnce (runs ++ a ∷ [])
once-push [] a once none = (refl, tt)
once-push (b ∷ runs) a once none =
    let two = head-none (is_run a.run.run) b runs none in (
      find-append (is_run b.run.run) runs (a ∷ []) ∙ ap (λ o. option_or o (cond (bytes_eq a.run.run b.run.run) (Some a) None)) once.0
          ∙ ap (λ t. cond t (Some a) None) (nat_list_eq_equiv.symm a.run.run b.run.run ∙ two.0),
      once-push runs a once.1 two.1,
    )

Once : List Entry → Type 0
Once h = NamedOnce (acceptances h)

once-grown : (h : List Entry) (e : Entry) → Allowed h e → Once h → Once (h ++ e ∷ [])
unfolding Once
once-grown h e allowed once = grind (arith, common_steps, chosen-skip, chosen-push, once-push, length)

-- ---- steps rise
abbrev StepsFrom : ℕ → List Acceptance → Type 0
StepsFrom low [] = Unit {0}
StepsFrom low (a ∷ runs) = (low ≤ a.step) × StepsFrom (suc a.step) runs

steps-lower : (low less : ℕ) (runs : List Acceptance) → less ≤ low → StepsFrom low runs → StepsFrom less runs
steps-lower low less [] le from = tt
steps-lower low less (a ∷ runs) le from = (omega (arith, from.0), from.1)

steps-of : (k : ℕ) (h : List Entry) → StepsFrom k (chosen_from k acceptance h)
steps-of k [] = tt
steps-of k (entry.Commit number name ∷ h) = steps-lower (k + 1) k (chosen_from (k + 1) acceptance h) (omega arith) (steps-of (k + 1) h)
steps-of k (entry.Retract name ∷ h) = steps-lower (k + 1) k (chosen_from (k + 1) acceptance h) (omega arith) (steps-of (k + 1) h)
steps-of k (entry.Tune metric penalty len ∷ h) = steps-lower (k + 1) k (chosen_from (k + 1) acceptance h) (omega arith) (steps-of (k + 1) h)
steps-of k (entry.Publish p ∷ h) = steps-lower (k + 1) k (chosen_from (k + 1) acceptance h) (omega arith) (steps-of (k + 1) h)
steps-of k (entry.Regression event ∷ h) = steps-lower (k + 1) k (chosen_from (k + 1) acceptance h) (omega arith) (steps-of (k + 1) h)
steps-of k (entry.Job event ∷ h) = steps-lower (k + 1) k (chosen_from (k + 1) acceptance h) (omega arith) (steps-of (k + 1) h)
steps-of k (entry.Accept run ∷ h) = (omega arith, steps-lower (k + 1) (suc k) (chosen_from (k + 1) acceptance h) (omega arith) (steps-of (k + 1) h))

found-above : (run : List ℕ) (low : ℕ) (runs : List Acceptance) (a : Acceptance) → StepsFrom low runs → find (is_run run) runs ≡ Some a → low ≤ a.step
found-above run low [] a from found = absurd (cc)
found-above run low (b ∷ runs) a from found = elim (cases_Bool (is_run run b)) [
  | inl hit ↦
      let same : b ≡ a = cc in
      subst (λ (x : Acceptance). low ≤ x.step) same from.0
  | inr miss ↦
      let rest = found-above run (suc b.step) runs a from.1 (sym (ap (λ t. cond t (Some b) (find (is_run run) runs)) miss) ∙ found) in
      omega (arith, rest, from.0)
]

-- ---- the acceptance of a name is the one of its step
abbrev Tells : List ℕ → Acceptance → List Acceptance → Type 0
Tells run a [] = Unit {0}
Tells run a (b ∷ runs) = (is_run run b ≡ (b.step == a.step)) × ((is_run run b ≡ true → b ≡ a) × Tells run a runs)

tells-none : (run : List ℕ) (a : Acceptance) (low : ℕ) (runs : List Acceptance) → a.step < low → StepsFrom low runs → find (is_run run) runs ≡ None → Tells run a runs
tells-none run a low [] lt from none = tt
tells-none run a low (b ∷ runs) lt from none =
    let two = head-none (is_run run) b runs none in (
      two.0 ∙ sym (ne_eqb b.step a.step (λ e. omega (arith, e, lt, from.0))),
      ((λ hit. absurd (let no : true ≡ false = sym hit ∙ two.0 in cc)), tells-none run a (suc b.step) runs (omega (arith, lt, from.0)) from.1 two.1),
    )

tells : (run : List ℕ) (a : Acceptance) (low : ℕ) (runs : List Acceptance) → StepsFrom low runs → NamedOnce runs → find (is_run run) runs ≡ Some a → Tells run a runs
tells run a low [] from once found = tt
tells run a low (b ∷ runs) from once found = elim (cases_Bool (is_run run b)) [
  | inl hit ↦
      let same : b ≡ a = cc in
      let steps : b.step ≡ a.step = ap (λ (x : Acceptance). x.step) same in
      let name : b.run.run ≡ run = same-bytes b.run.run run hit in (
        hit ∙ sym (eq-eqb b.step a.step steps),
        ((λ again. same), tells-none run a (suc b.step) runs (omega (arith, steps)) from.1 (ap (λ (n : List ℕ). find (is_run n) runs) (sym name) ∙ once.0)),
      )
  | inr miss ↦
      let later : find (is_run run) runs ≡ Some a = sym (ap (λ t. cond t (Some b) (find (is_run run) runs)) miss) ∙ found in
      let above = found-above run (suc b.step) runs a from.1 later in (
        miss ∙ sym (ne_eqb b.step a.step (λ e. omega (arith, e, above))),
        ((λ hit. absurd (let no : true ≡ false = sym hit ∙ miss in cc)), tells run a (suc b.step) runs from.1 once.1 later),
      )
]

-- ---- what is brought without that run
module _ (s : Series) (run : List ℕ) (a : Acceptance) where
  other : Brought → Bool
  other = is_other a.run.commit a.step

  all-gone : (xs : List Measurement) → filter (is_other a.run.commit a.step) (map (λ (x : Measurement). let y : Brought = record { commit = a.run.commit; step = a.step; value = x.value } in y) xs) ≡ []
  all-gone [] = refl
  all-gone (x ∷ xs) = rw (eq-eqb a.run.commit a.run.commit refl, eq-eqb a.step a.step refl) (all-gone xs)

  all-stay : (b : Acceptance) → (b.step == a.step) ≡ false → (xs : List Measurement)
      → filter (is_other a.run.commit a.step) (map (λ (x : Measurement). let y : Brought = record { commit = b.run.commit; step = b.step; value = x.value } in y) xs)
      ≡ map (λ (x : Measurement). let y : Brought = record { commit = b.run.commit; step = b.step; value = x.value } in y) xs
  all-stay b apart [] = refl
  all-stay b apart (x ∷ xs) = grind (arith, common_steps, all-stay b apart xs)

  still : (gone : List Retraction) (step : ℕ) (name : List ℕ)
      → is_none (find (takes_back name) (gone ++ record { step = step; run = run } ∷ [])) ≡ (is_none (find (takes_back name) gone) && not (bytes_eq run name))
  still gone step name = grind (arith, common_steps, find-append, run, cond, not)

  -- whether another run stands, with the run taken back too
  module _ (gone : List Retraction) (step : ℕ) (b : Acceptance) where
    still-dead : is_none (find (takes_back b.run.run) gone) ≡ false → is_none (find (takes_back b.run.run) (gone ++ record { step = step; run = run } ∷ [])) ≡ false
    still-dead dead = still gone step b.run.run ∙ ap (λ t. t && not (bytes_eq run b.run.run)) dead

    by-name : is_none (find (takes_back b.run.run) gone) ≡ true → is_none (find (takes_back b.run.run) (gone ++ record { step = step; run = run } ∷ [])) ≡ not (is_run run b)
    by-name live = still gone step b.run.run ∙ ap (λ t. t && not (bytes_eq run b.run.run)) live ∙ ap not (nat_list_eq_equiv.symm run b.run.run)

  pub brought-without : (gone : List Retraction) (step : ℕ) (runs : List Acceptance) → Tells run a runs
      → brought s (live_of (gone ++ record { step = step; run = run } ∷ []) runs) ≡ filter (is_other a.run.commit a.step) (brought s (live_of gone runs))
  brought-without gone step [] tell = refl
  brought-without gone step (b ∷ runs) tell =
      let rest = brought-without gone step runs tell.1.1 in
      elim (cases_Bool (is_none (find (takes_back b.run.run) gone))) [
        | inr dead ↦ rw (still-dead gone step b dead, dead) rest
        | inl live ↦ elim (cases_Bool (is_run run b)) [
          | inl hit ↦
              let dead' = by-name gone step b live ∙ ap not hit in
              let none : filter (is_other a.run.commit a.step) (brought_by s b) ≡ [] =
              ap (λ (x : Acceptance). filter (is_other a.run.commit a.step) (brought_by s x)) (tell.1.0 hit) ∙ all-gone (filter (is_of s) a.run.samples) in
              rw (dead', live) (rest ∙ sym (filter-append (is_other a.run.commit a.step) (brought_by s b) (brought s (live_of gone runs))
              ∙ ap (λ ys. ys ++ filter (is_other a.run.commit a.step) (brought s (live_of gone runs))) none))
          | inr miss ↦
              let live' = by-name gone step b live ∙ ap not miss in
              let all : filter (is_other a.run.commit a.step) (brought_by s b) ≡ brought_by s b = all-stay b (sym tell.0 ∙ miss) (filter (is_of s) b.run.samples) in
              rw (live', live) (ap (λ ys. brought_by s b ++ ys) rest
              ∙ sym (filter-append (is_other a.run.commit a.step) (brought_by s b) (brought s (live_of gone runs))
              ∙ ap (λ ys. ys ++ filter (is_other a.run.commit a.step) (brought s (live_of gone runs))) all))
        ]
      ]

  -- where the run has no sample of the series, nothing goes
  pub brought-same : (gone : List Retraction) (step : ℕ) (runs : List Acceptance) → Tells run a runs → brought_by s a ≡ []
      → brought s (live_of (gone ++ record { step = step; run = run } ∷ []) runs) ≡ brought s (live_of gone runs)
  brought-same gone step [] tell none = refl
  brought-same gone step (b ∷ runs) tell none =
      let rest = brought-same gone step runs tell.1.1 none in
      elim (cases_Bool (is_none (find (takes_back b.run.run) gone))) [
        | inr dead ↦ rw (still-dead gone step b dead, dead) rest
        | inl live ↦ elim (cases_Bool (is_run run b)) [
          | inl hit ↦
              let dead' = by-name gone step b live ∙ ap not hit in
              let mine : brought_by s b ≡ [] = ap (brought_by s) (tell.1.0 hit) ∙ none in
              rw (dead', live) (rest ∙ sym (ap (λ ys. ys ++ brought s (live_of gone runs)) mine))
          | inr miss ↦
              let live' = by-name gone step b live ∙ ap not miss in
              rw (live', live) (ap (λ ys. brought_by s b ++ ys) rest)
        ]
      ]

pub positions-untouched : (h : List Entry) (run : List ℕ) (a : Acceptance) (s : Series) → Legal h → accepted run h ≡ Some a → list_any (is_of s) a.run.samples ≡ false
    → positions (h ++ entry.Retract run ∷ []) s ≡ positions h s
unfolding Once
positions-untouched h run a s legal known none =
    let tell : Tells run a (acceptances h) = tells run a 1 (acceptances h) (steps-of 1 h) (legal-each Once tt once-grown h legal) known in
    let empty : brought_by s a ≡ [] = ap (map (λ (x : Measurement). let y : Brought = record { commit = a.run.commit; step = a.step; value = x.value } in y)) (filter-none (is_of s) a.run.samples none) in
    rw (chosen-skip acceptance h (entry.Retract run) refl, chosen-push retraction h (entry.Retract run))
    (ap positions_of (brought-same s run a (retractions h) (length h + 1) (acceptances h) tell empty))

pub positions-retract : (h : List Entry) (run : List ℕ) (a : Acceptance) (s : Series) → Legal h → accepted run h ≡ Some a
    → positions (h ++ entry.Retract run ∷ []) s ≡ removed a.run.commit a.step (positions h s)
unfolding Once
positions-retract h run a s legal known =
    let tell : Tells run a (acceptances h) = tells run a 1 (acceptances h) (steps-of 1 h) (legal-each Once tt once-grown h legal) known in
    rw (chosen-skip acceptance h (entry.Retract run) refl, chosen-push retraction h (entry.Retract run))
    (ap positions_of (brought-without s run a (retractions h) (length h + 1) (acceptances h) tell)
    ∙ positions-without a.run.commit a.step (brought s (live_of (retractions h) (acceptances h))))
