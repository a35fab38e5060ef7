-- The stored runs after a retraction: the one of that name is marked.
use Rattle.std.proofs.{Common.{◌≡◌, ℕ, true, false, List, [], ◌∷◌, ◌++◌, map, refl, sym, ap, ◌∙◌, Option, inl, inr, cond, arith}, lemmas.Grind.common_steps}
use Rattle.std.{specs.Prelude.{Some, None, find, option_map, bytes_eq}, specs.Option.option_or, proofs.lemmas.Bool.cases_Bool}
use Rattle.std.proofs.lemmas.{List.Folds.find-append, Slice.Eq.bytes_eq-Decides}
use Rattle.history_model.specs.declared.entries.{Acceptance.Acceptance, Entry.Entry}
use Rattle.history_model.{specs.Runs.{Retraction, accepted, takes_back, acceptances, retractions}, proofs.Lists.{find-map, same-bytes}}
use Rattle.sample_store.specs.Runs.{names, marked}
use Rattle.machine_state.specs.Indexes.{stored, stored_runs}

eq-bytes : (xs : List ℕ) → bytes_eq xs xs ≡ true
eq-bytes xs = (bytes_eq-Decides xs xs).1 refl

or-none : {A : Type 0} (o : Option A) → option_or o None ≡ o
or-none o = grind (arith, common_steps)

module _ (taken : List Retraction) (step : ℕ) (run : List ℕ) (live : find (takes_back run) taken ≡ None) where
  marked-stored : (a : Acceptance) → marked step run (stored taken a) ≡ stored (taken ++ record { step = step; run = run } ∷ []) a
  marked-stored a = elim (cases_Bool (bytes_eq a.run.run run)) [
    | inl hit ↦
        let same : a.run.run ≡ run = same-bytes a.run.run run hit in
        let found : find (takes_back a.run.run) (taken ++ record { step = step; run = run } ∷ []) ≡ Some (record { step = step; run = run }) =
        find-append (takes_back a.run.run) taken (record { step = step; run = run } ∷ [])
        ∙ ap (λ (name : List ℕ). option_or (find (takes_back name) taken) (cond (bytes_eq run name) (Some (record { step = step; run = run })) None)) same
        ∙ ap (λ o. option_or o (cond (bytes_eq run run) (Some (record { step = step; run = run })) None)) live
        ∙ ap (λ b. cond b (Some (record { step = step; run = run })) None) (eq-bytes run) in
        rw (hit, found) refl
    | inr missed ↦
        let other : bytes_eq run a.run.run ≡ false = other-way missed in
        let found : find (takes_back a.run.run) (taken ++ record { step = step; run = run } ∷ []) ≡ find (takes_back a.run.run) taken =
        find-append (takes_back a.run.run) taken (record { step = step; run = run } ∷ [])
        ∙ ap (λ b. option_or (find (takes_back a.run.run) taken) (cond b (Some (record { step = step; run = run })) None)) other
        ∙ or-none (find (takes_back a.run.run) taken) in
        rw (missed, found) refl
  ]
    where
      other-way : bytes_eq a.run.run run ≡ false → bytes_eq run a.run.run ≡ false
      other-way missed = elim (cases_Bool (bytes_eq run a.run.run)) [
        | inl hit ↦ absurd (let no : true ≡ false = sym (eq-bytes run) ∙ ap (λ name. bytes_eq name run) (same-bytes run a.run.run hit) ∙ missed in cc)
        | inr other ↦ other
      ]

  pub all-marked : (runs : List Acceptance) → map (marked step run) (map (stored taken) runs) ≡ map (stored (taken ++ record { step = step; run = run } ∷ [])) runs
  all-marked [] = refl
  all-marked (a ∷ runs) = ap (λ s. s ∷ map (marked step run) (map (stored taken) runs)) (marked-stored a) ∙ ap (λ rest. stored (taken ++ record { step = step; run = run } ∷ []) a ∷ rest) (all-marked runs)

-- what a look-up of the stored runs tells
pub look-up : (h : List Entry) (run : List ℕ) → find (names run) (stored_runs h) ≡ option_map (stored (retractions h)) (accepted run h)
look-up h run = find-map (names run) (stored (retractions h)) (acceptances h)
